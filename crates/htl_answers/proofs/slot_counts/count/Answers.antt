-- Where no row of the key was found, a row more counts the event.
use Rattle.std.proofs.Common.{rules, ◌≡◌, ◌≤◌, List, [], ◌∷◌, ◌++◌, take, drop, length, append-nil, sym, ap, ◌∙◌, subst, arith}
use Rattle.std.proofs.lemmas.List.{drop_all, take_all}
use Rattle.htl_event.specs.declared.slot.Count.{Count}
use Rattle.htl_answers.specs.Counts.{one_count}
use Rattle.htl_answers.specs.Rows.{CountAlike}
use Rattle.htl_answers.proofs.CountedAlike.{alike_itself}
use Rattle.htl_answers.proofs.slot_counts.count.Goals as goal

pub returns : goal.returns
returns g c =
    let rows : List (g.row.L-Key.Denot × Count) = c.args.rows.now.items in
    let len = c.args.rows.now.len in
    let row : g.row.L-Key.Denot × Count = (g.L.CountedBy.key_of c.args.slot c.args.stack.now, one_count c.args.sign) in
    let kept : c.count_in_row.new.rows ≡ rows = c.count_in_row.ensures.kept (search rules) ∙ c.deref_mut.ensures.value in
    let all : length rows ≤ len = omega (arith, c.deref_mut.ensures.len, ap length c.deref_mut.ensures.value) in
    let whole : take len (c.count_in_row.new.rows ++ drop (length c.count_in_row.new.rows) rows) ≡ rows =
    ap (λ (l : List (g.row.L-Key.Denot × Count)). take len (l ++ drop (length l) rows)) kept
    ∙ ap (λ (l : List (g.row.L-Key.Denot × Count)). take len (rows ++ l)) (drop_all (length rows) rows (omega arith))
    ∙ ap (take len) (append-nil rows) ∙ take_all len rows all in
    let is : c.push.new.self.items ≡ rows ++ row ∷ [] = c.in_ok-push.ensures.items
    ∙ ap (λ (l : List (g.row.L-Key.Denot × Count)). l ++ (c.in_ok-key.field-0, c.one.result) ∷ []) whole
    ∙ ap (λ k. rows ++ (k, c.one.result) ∷ []) c.in_ok-key.ensures
    ∙ ap (λ n. rows ++ (g.L.CountedBy.key_of c.args.slot c.args.stack.now, n) ∷ []) c.one.ensures in
    subst (λ (l : List (g.row.L-Key.Denot × Count)). CountAlike g.L.Key.Ord.cmp (rows ++ row ∷ []) l) (sym is)
    (alike_itself g.L.Key.Ord.cmp (rows ++ row ∷ []))
