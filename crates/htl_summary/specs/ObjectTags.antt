-- What the tags of objects come to, from the sums of slots.
use Rattle.std.specs.Prelude.{ℕ, ◌+◌, ◌<◌, ◌^◌, ◌==◌, if◌then◌else◌, Option, Some, None}
use Rattle.htl_event.specs.declared.slot.Slot.{Slot}
use Rattle.htl_event.specs.declared.slot.Slot.TheVariants.{Tagged}
use Rattle.htl_event.specs.declared.slot.Count.{Count}
use Rattle.htl_event.specs.declared.summary.ObjectRow.{ObjectRow}

abbrev pub one_if_unbalanced : Count → ℕ
one_if_unbalanced count = if count.plus == count.minus then 0 else 1

-- the sum of a tag, as the row of an object that has this tag alone
abbrev pub tag_of : Slot → Count → Option ObjectRow
tag_of (Tagged object tag) count =
    Some (record { object = object; tags = 1; unbalanced = one_if_unbalanced count; refs = count.plus; derefs = count.minus })
tag_of other count = None

abbrev pub both_objects : ObjectRow → ObjectRow → ObjectRow
both_objects a b = record {
  object = a.object;
  tags = a.tags + b.tags;
  unbalanced = a.unbalanced + b.unbalanced;
  refs = a.refs + b.refs;
  derefs = a.derefs + b.derefs;
}

pub record FitObjects (a b : ObjectRow) : Type 0 where
  pub fit_tags : a.tags + b.tags < 2 ^ 64
  pub fit_unbalanced : a.unbalanced + b.unbalanced < 2 ^ 64
  pub fit_refs : a.refs + b.refs < 2 ^ 64
  pub fit_derefs : a.derefs + b.derefs < 2 ^ 64
