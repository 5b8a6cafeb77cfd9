-- Tables of a list of parts follow from those of both halves, where it is cut in two.
use Rattle.std.proofs.Common.{ℕ, List, ◌++◌, sym, subst}
use Rattle.htl_event.specs.Events.{Event}
use Rattle.htl_answers.specs.Parts.{Contents, AreEventsOf, AreTablesOf}
use Rattle.htl_answers.proofs.PartLemmas.{split_parts}

-- tables of the events of both halves are those of the events of all parts
pub tables_halves : (latest : List Event) (marks exits : List (ℕ × ℕ)) (front back : List Contents) (events : List Event)
    → ((xs ys : List Event) → AreEventsOf front xs → AreEventsOf back ys → AreTablesOf (xs ++ ys) latest marks exits)
    → AreEventsOf (front ++ back) events → AreTablesOf events latest marks exits
tables_halves latest marks exits front back events of_both are =
    let joins = split_parts front back events are in
    subst (λ (es : List Event). AreTablesOf es latest marks exits) (sym joins.is)
    (of_both joins.first joins.second joins.of_front joins.of_back)
