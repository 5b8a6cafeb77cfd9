-- Rows tell the state: with the stacks of the table in the place of their numbers they are the tallies and the latest events.
use Rattle.std.proofs.Common.{◌≡◌, ℕ, ◌<◌, List, [], ◌∷◌, length, map, refl, sym, ◌∙◌, ap, arith, ext_get_or}
use Rattle.std.specs.Prelude.{Contains}
use Rattle.std.specs.List.{AllByRecursion}
use Rattle.std.proofs.lemmas.List.Elements.{Contains-get_or}
use Rattle.htl_event.specs.Events.{Event}
use Rattle.htl_event.proofs.Members.{all_left, all_right}
use Rattle.htl_segment.specs.Content.{Content}
use Rattle.htl_tree.specs.Trees.{Tree, count_at}
use Rattle.htl_tables.specs.Latest.{event_at}
use Rattle.htl_tables.specs.Greatest.{sequence_at}
use Rattle.htl_taken.specs.Numbers.{Numbers, no_numbers, numbers_at, front_at}
use Rattle.htl_analyst.specs.States.{Part as Kept, no_part, part_at, State as Analyst}
use Rattle.htl_analyst.specs.Same.{IsSame, IsSamePart}
use Rattle.htl_state.specs.Rows.{Part, State}
use Rattle.htl_saved.specs.Tables.{HasAll, count_row, latest_row}
use Rattle.htl_saved.specs.AnalystRows.{AreRowsOf, part_rows, stacks_of}
use Rattle.htl_saved.specs.Restored.{counted, event_of}
use Rattle.htl_saved.specs.Laws.{IsPlain, IsPlainState, TellTheState}
use Rattle.htl_saved.proofs.Places.{at_place}
use Rattle.htl_saved.proofs.Tallies.{Counted}
use Rattle.htl_saved.proofs.TablesOf.{has_part, table_has_all}

-- ---- one row

-- the rows of a tally tell it
pub counts_back : (table : List (List ℕ)) (tree : Tree) → HasAll table (map (λ (row : Counted). row.0.0) tree)
    → map (counted table) (map (count_row table) tree) ≡ tree
counts_back table [] all = refl
counts_back table (row ∷ tree) all =
    ap (λ (s : List ℕ). ((s, row.0.1), row.1) ∷ map (counted table) (map (count_row table) tree)) (at_place table [] row.0.0 all.0)
    ∙ ap (λ (t : Tree). row ∷ t) (counts_back table tree all.1)

-- the event, with this object, tag and stack
abbrev with_rest : Event → ℕ → List ℕ → List ℕ → Event
with_rest e object tag stack = record {
  sequence = e.sequence;
  kind = e.kind;
  process = e.process;
  thread = e.thread;
  handle = e.handle;
  object = object;
  tag = tag;
  stack = stack;
}

-- the row of a plain event tells it
event_back : (table : List (List ℕ)) (e : Event) → Contains table e.stack → IsPlain e → event_of table (latest_row table e) ≡ e
event_back table e here plain =
    ap (λ (s : List ℕ). with_rest e 0 (0 ∷ 0 ∷ 0 ∷ 0 ∷ []) s) (at_place table [] e.stack here)
    ∙ ap (λ (t : List ℕ). with_rest e 0 t e.stack) (sym plain.tag)
    ∙ ap (λ (o : ℕ). with_rest e o e.tag e.stack) (sym plain.object)

-- the rows of plain events tell them
pub events_back : (table : List (List ℕ)) (es : List Event) → HasAll table (map (λ (e : Event). e.stack) es) → AllByRecursion IsPlain es
    → map (event_of table) (map (latest_row table) es) ≡ es
events_back table [] all plain = refl
events_back table (e ∷ es) all plain =
    ap (λ (x : Event). x ∷ map (event_of table) (map (latest_row table) es)) (event_back table e all.0 plain.0)
    ∙ ap (λ (xs : List Event). e ∷ xs) (events_back table es all.1 plain.1)

-- ---- one processor

-- two parts with the same rows are the same
same_parts : (table : List (List ℕ)) (k l : Kept) (f g : ℕ) → HasAll table (stacks_of k) → HasAll table (stacks_of l)
    → AllByRecursion IsPlain k.folded.latest → AllByRecursion IsPlain l.folded.latest
    → part_rows table f k ≡ part_rows table g l → IsSamePart k l
same_parts table k l f g in_k in_l plain_k plain_l e = record {
  held = ap (λ (r : Part). r.held) e;
  folded = record {
    last_sequence = ap (λ (r : Part). r.last_sequence) e;
    events = ap (λ (r : Part). r.events) e;
    tree = λ slot stack. ap (λ (t : Tree). count_at t slot stack) trees;
    latest = λ process base. ap (λ (es : List Event). event_at es process base) latest;
    marks = λ process. ap (λ (r : Part). sequence_at r.marks process) e;
    exits = λ process. ap (λ (r : Part). sequence_at r.exits process) e;
  };
}
  where
    trees : k.folded.tree ≡ l.folded.tree
    trees =
        sym (counts_back table k.folded.tree (all_left (Contains table) _ _ in_k))
        ∙ ap (λ (r : Part). map (counted table) r.counts) e
        ∙ counts_back table l.folded.tree (all_left (Contains table) _ _ in_l)

    latest : k.folded.latest ≡ l.folded.latest
    latest =
        sym (events_back table k.folded.latest (all_right (Contains table) (map (λ (row : Counted). row.0.0) k.folded.tree) _ in_k) plain_k)
        ∙ ap (λ (r : Part). map (event_of table) r.latest) e
        ∙ events_back table l.folded.latest (all_right (Contains table) (map (λ (row : Counted). row.0.0) l.folded.tree) _ in_l) plain_l

-- ---- an analyst

module _ (a b : Analyst) (rows : State) (is_a : IsPlainState a) (is_b : IsPlainState b) (r : AreRowsOf a rows) (s : AreRowsOf b rows) where
  processors : a.processors ≡ b.processors
  processors = sym r.processors ∙ s.processors

  rows_of_both : (p : ℕ) → p < a.processors
      → part_rows rows.stacks (front_at a.taken p) (part_at a.parts p)
      ≡ part_rows rows.stacks (front_at b.taken p) (part_at b.parts p)
  rows_of_both p lt = sym (r.parts p lt) ∙ s.parts p (omega (arith, processors, lt))

  same_at : (p : ℕ) → p < a.processors → IsSamePart (part_at a.parts p) (part_at b.parts p)
  same_at p lt =
      let within : p < b.processors = omega (arith, processors, lt) in
      same_parts rows.stacks (part_at a.parts p) (part_at b.parts p) (front_at a.taken p) (front_at b.taken p)
      (has_part rows.stacks a.parts _ (table_has_all a.parts rows.stacks r.stacks)
      (Contains-get_or a.parts p no_part (omega (arith, is_a.state.parts, lt))))
      (has_part rows.stacks b.parts _ (table_has_all b.parts rows.stacks s.stacks)
      (Contains-get_or b.parts p no_part (omega (arith, is_b.state.parts, within))))
      (is_a.plain p lt) (is_b.plain p within) (rows_of_both p lt)

  same_numbers : (p : ℕ) → p < length a.taken → numbers_at a.taken p ≡ numbers_at b.taken p
  same_numbers p lt =
      let in_a : p < a.processors = omega (arith, is_a.state.places, lt) in
      let in_b : p < b.processors = omega (arith, processors, in_a) in
      let q = numbers_at a.taken p in
      let u = numbers_at b.taken p in
      let front : q.front ≡ u.front = ap (λ (x : Part). x.front) (rows_of_both p in_a) in
      let loose : q.loose ≡ u.loose =
      sym (is_a.state.each p in_a).numbers ∙ ap (map (λ (c : Content). c.number)) (same_at p in_a).held
      ∙ (is_b.state.each p in_b).numbers in
      let numbers : ℕ → List ℕ → Numbers = λ f l. record { front = f; loose = l } in
      ap (λ (f : ℕ). numbers f q.loose) front ∙ ap (λ (l : List ℕ). numbers u.front l) loose

  pub same_states : IsSame a b
  same_states = record {
    trace_id = sym r.trace_id ∙ s.trace_id;
    processors = processors;
    taken = ext_get_or no_numbers a.taken b.taken (is_a.state.places ∙ processors ∙ sym is_b.state.places) same_numbers;
    parts = same_at;
  }

pub tell_the_state : TellTheState
tell_the_state a b rows is_a is_b r s = same_states a b rows is_a is_b r s
