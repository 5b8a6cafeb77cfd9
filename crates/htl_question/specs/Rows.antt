-- What an answer says, wherever its rows lie in memory; whether it finds something; and whether it is since no snapshot.
use Rattle.std.specs.Prelude.{ℕ, Bool, false, ◌&&◌, ◌||◌, ◌==◌, nat_lt, not, List, length, Option, Some, None}
use Rattle.std.specs.List.{list_any}
use Rattle.htl_event.specs.Balances.{Balance}
use Rattle.htl_event.specs.Events.{Event}
use Rattle.htl_event.specs.Sites.{Site}
use Rattle.htl_event.specs.declared.growth.Point.{Point}
use Rattle.htl_event.specs.declared.slot.Count.{Count}
use Rattle.htl_event.specs.declared.summary.ObjectRow.{ObjectRow}
use Rattle.htl_event.specs.declared.summary.ProcessRow.{ProcessRow}
use Rattle.htl_taken.specs.declared.gap.Gap.{Gap}
use Rattle.htl_question.specs.declared.answer.Rows.{Rows}
use Rattle.htl_question.specs.declared.answer.Rows.TheVariants as rows
use Rattle.htl_question.specs.declared.answer.Totals.{Totals}
use Rattle.htl_question.specs.declared.question.Question.{Question}
use Rattle.htl_question.specs.Questions.{asks_since, is_snapshot}

-- the rows of an answer
pub data Listed : Type 0 where
  opens : List Event → Listed
  listing : List Event → Listed
  tags : List (List ℕ × Count) → Listed
  bad : List (ℕ × List ℕ × ℕ) → Listed
  leaks : List (List ℕ × ℕ) → Listed
  sites : List Site → Listed
  stacks : List (List ℕ × Count) → Listed
  balances : ℕ → List Balance → Listed
  tag_stacks : List Balance → Listed
  points : List Point → Listed
  summary : Totals → List Gap → List ProcessRow → List ObjectRow → Listed

abbrev pub listed : Rows → Listed
listed (rows.Opens xs) = opens xs.items
listed (rows.Listing xs) = listing xs.items
listed (rows.Tags xs) = tags xs.items
listed (rows.Bad xs) = bad xs.items
listed (rows.Leaks xs) = leaks xs.items
listed (rows.Sites xs) = sites xs.items
listed (rows.Stacks xs) = stacks xs.items
listed (rows.Balances objects list) = balances objects list.items
listed (rows.TagStacks xs) = tag_stacks xs.items
listed (rows.Points xs) = points xs.items
listed (rows.Summary totals gaps processes objects) = summary totals gaps.items processes.items objects.items

-- an answer: what was asked, after which sequence handles count, where there is one, and the rows
pub record Found : Type 0 where
  pub question : Question
  pub since : Option ℕ
  pub rows : Listed

abbrev pub found : Question → Option ℕ → Listed → Found
found question since rows = record { question = question; since = since; rows = rows }

abbrev pub has_rows : {R : Type 0} → List R → Bool
has_rows xs = not (length xs == 0)

-- The answer finds something: it has a row; of tags one that doesn't balance, of balances one that doesn't on some object, and of a
-- summary a process with outstanding handles or bad references, or an object.
abbrev pub has_finding : Listed → Bool
has_finding (opens xs) = has_rows xs
has_finding (listing xs) = has_rows xs
has_finding (tags xs) = list_any (λ row. not (row.1.plus == row.1.minus)) xs
has_finding (bad xs) = has_rows xs
has_finding (leaks xs) = has_rows xs
has_finding (sites xs) = has_rows xs
has_finding (stacks xs) = has_rows xs
has_finding (balances objects xs) = list_any (λ row. nat_lt 0 row.objects) xs
has_finding (tag_stacks xs) = has_rows xs
has_finding (points xs) = has_rows xs
has_finding (summary totals gaps processes objects) =
    list_any (λ row. not (row.outstanding == 0) || not (row.bad == 0)) processes || has_rows objects

abbrev pub is_0 : Option ℕ → Bool
is_0 None = false
is_0 (Some since) = since == 0

-- It was asked since the snapshot of a process that has none: the answer is since its mark, which is 0.
abbrev pub is_unmarked : Found → Bool
is_unmarked answer = is_snapshot (asks_since answer.question) && is_0 answer.since
