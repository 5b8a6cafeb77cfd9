-- The table has all stacks of the analyst, and there is one such table.
use Rattle.std.proofs.Common.{◌≡◌, ◌<◌, ◌≤◌, ℕ, List, length, sym, ap, ◌∙◌, subst, arith}
use Rattle.std.specs.List.{flat_map}
use Rattle.htl_taken.specs.Numbers.{front_at}
use Rattle.htl_analyst.specs.States.{Part as Kept, part_at}
use Rattle.htl_saved.specs.Tables.{HasAll, IsOrdered}
use Rattle.htl_saved.specs.AnalystRows.{IsTable, stacks_of, part_rows}
use Rattle.htl_saved.proofs.TablesOf.{table_has_all, tables_are_one}
use Rattle.htl_saved.proofs.rows.rows_of.Goals as goal

-- the table of what was read is that of the analyst's parts
table_read : (parts read : List Kept) (table : List (List ℕ)) → read ≡ parts → IsTable read table → IsTable parts table
table_read parts read table same is = subst (λ (ks : List Kept). IsTable ks table) same is

-- where one table of some parts has so many stacks, each has
many_in_each : (parts : List Kept) (t u : List (List ℕ)) (n : ℕ) → IsTable parts t → IsTable parts u → n < length t → n < length u
many_in_each parts t u n is other lt = subst (λ (l : List (List ℕ)). n < length l) (tables_are_one parts t u is other) lt

pub all_parts-requires-clause-ordered : goal.all_parts-requires-clause-ordered
all_parts-requires-clause-ordered g c =
    let few : length c.in_ok-stacks.stacks.items ≤ 4294967296 =
    omega (arith, c.if-len-gt-MAX_STACKS.false, c.len.ensures, c.in_ok-stacks.stacks.ok.0) in
    subst IsOrdered (sym c.deref.ensures.value) (record { rising = c.in_ok-stacks.ensures.rising; few = few })

pub all_parts-requires-clause-here : goal.all_parts-requires-clause-here
all_parts-requires-clause-here g c =
    let parts = c.args.analyst.now.parts in
    let table = c.in_ok-stacks.stacks.items in
    subst (λ (l : List (List ℕ)). HasAll l (flat_map stacks_of parts)) (sym c.deref.ensures.value)
    (table_has_all parts table (table_read parts c.parts.result.now table c.parts.ensures.value c.in_ok-stacks.ensures))

pub returns-then-len-gt-MAX_STACKS-clause-many : goal.returns-then-len-gt-MAX_STACKS-clause-many
returns-then-len-gt-MAX_STACKS-clause-many g c is rows are =
    let parts = c.args.analyst.now.parts in
    let table = c.in_ok-stacks.stacks.items in
    many_in_each parts table rows.stacks 4294967296
    (table_read parts c.parts.result.now table c.parts.ensures.value c.in_ok-stacks.ensures) are.stacks
    (omega (arith, c.if-len-gt-MAX_STACKS.true, c.len.ensures, c.in_ok-stacks.stacks.ok.0))

pub returns-clause-many : goal.returns-clause-many
returns-clause-many g c is rows are = absurd (cc)

pub returns-clause-rows : goal.returns-clause-rows
returns-clause-rows g c =
    let a = c.args.analyst.now in
    let parts = a.parts in
    let table = c.in_ok-stacks.stacks.items in
    record {
      trace_id = c.trace_id.ensures;
      stacks = table_read parts c.parts.result.now table c.parts.ensures.value c.in_ok-stacks.ensures;
      processors = c.in_ok-parts.ensures.len;
      parts = λ p lt. c.in_ok-parts.ensures.each p lt
          ∙ ap (λ (l : List (List ℕ)). part_rows l (front_at a.taken p) (part_at a.parts p))
          c.deref.ensures.value;
    }
