-- A row of its own counts the one more.
use Rattle.std.proofs.Common.{rules, ◌≡◌, ◌≤◌, List, [], ◌∷◌, ◌++◌, take, drop, length, append-nil, sym, ap, ◌∙◌, refl, subst, arith}
use Rattle.std.proofs.lemmas.List.{drop_all, take_all}
use Rattle.htl_tree.specs.declared.row.Row.{Row}
use Rattle.htl_tree.specs.Rows.{IsOneMore}
use Rattle.htl_tree.proofs.RowsOneMore.{appended}
use Rattle.htl_tree.proofs.counting.count_in_rows.Goals as goal

pub returns : goal.returns
returns g c =
    let rows : List Row = c.args.rows.now.items in
    let len = c.args.rows.now.len in
    let new : Row = record { fingerprint = c.args.fingerprint; stack = c.args.stack; slot = c.args.slot; count = c.add_one.result } in
    let kept : c.count_in_row.new.rows ≡ rows = c.count_in_row.ensures.kept (search rules) ∙ c.deref_mut.ensures.value in
    let all : length rows ≤ len = omega (arith, c.deref_mut.ensures.len, ap length c.deref_mut.ensures.value) in
    let whole : take len (c.count_in_row.new.rows ++ drop (length c.count_in_row.new.rows) rows) ≡ rows =
    ap (λ (l : List Row). take len (l ++ drop (length l) rows)) kept ∙ ap (λ (l : List Row). take len (rows ++ l))
    (drop_all (length rows) rows (omega arith)) ∙ ap (take len) (append-nil rows) ∙ take_all len rows all in
    let is : c.push.new.self.items ≡ rows ++ new ∷ [] = c.in_ok-push.ensures.items ∙ ap (λ (l : List Row). l ++ new ∷ []) whole in
    subst (λ (l : List Row). IsOneMore c.args.stack.now c.args.slot c.args.sign rows l) (sym is)
    (appended c.args.stack.now c.args.slot c.args.sign rows new refl refl c.add_one.ensures)
