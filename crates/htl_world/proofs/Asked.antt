-- A world that is asked for some, and then for more, is asked for all of them: names, then a table of symbols, then what follows.
use Rattle.std.proofs.Common.{◌≡◌, ◌++◌, ◌∷◌, ◌∙◌, [], ℕ, suc, Bool, false, List, Option, None, Some, Result, Ok, Err, ap, append_assoc, append-nil, inl, inr}
use Rattle.std.proofs.Common.{refl, subst, sym}
use Rattle.htl_inputs.specs.declared.fault.RunFault.{RunFault}
use Rattle.htl_world.specs.Openings.{AsksFor, AsksForAll, AsksForTable, table_asked}
use Rattle.htl_world.specs.Rounds.{Asks, CanBeReadAgain, EndsEarly, OpensAgain, OpensBy, OpensOnce, Rounds, Tabled, inputs_opened}
use Rattle.htl_world.specs.Worlds.{Ask, IsAsked, Known, Logs, WorldState, change, to_read}
use Rattle.htl_world.proofs.PassedOn.{same_fault}

no_log : {A : Type 0} (x : A) → Some x ≡ None → ⊥
no_log x is = cc is

logs_more : (old mid new : Option (List Ask)) (first more : List Ask) → Logs old mid first → Logs mid new more → Logs old new (first ++ more)
logs_more None None new first more a b = b
logs_more None (Some ys) new first more a b = absurd (no_log ys a)
logs_more (Some xs) None None first more a b = tt
logs_more (Some xs) None (Some zs) first more a b = absurd (no_log zs b)
logs_more (Some xs) (Some ys) None first more a b = tt
logs_more (Some xs) (Some ys) (Some zs) first more a b = b ∙ ap (λ l. l ++ more) a ∙ append_assoc xs first more

logs_none : (old : Option (List Ask)) → Logs old old []
logs_none None = refl
logs_none (Some xs) = sym (append-nil xs)

pub asked_more : {old mid new : WorldState} {first more : List Ask} → IsAsked old mid first → IsAsked mid new more
    → IsAsked old new (first ++ more)
asked_more {old = old} {mid = mid} {new = new} {first = first} {more = more} a b = record {
  known = b.known ∙ a.known;
  log = logs_more old.asked mid.asked new.asked first more a.log b.log;
}

pub asked_none : (world : WorldState) → IsAsked world world []
asked_none world = record { known = refl; log = logs_none world.asked }

-- ---- rounds

module _ {S : Type 0} (names : List (List ℕ)) (ended : Result S RunFault) where
  -- a round in which all were opened, and then others
  pub one_round : {X : Type 0} (count : ℕ) (old mid new : WorldState) (opened : X)
      → AsksFor {S = X} (change old mid) names (inputs_opened names) (Ok opened) → Asks (change mid new) (Rounds count names ended)
      → Asks (change old new) (Rounds (suc count) names ended)
  one_round count old mid new opened asked later =
      (inputs_opened names ++ later.0, asked_more asked later.1, inr (inl (later.0, refl, later.2)))

  -- a round that ended before
  pub last_round : (count : ℕ) (old new : WorldState) (fault : RunFault) → ended ≡ Err fault
      → Asks (change old new) (EndsEarly names (inputs_opened names) fault) → Asks (change old new) (Rounds (suc count) names ended)
  last_round count old new fault is early = (early.0, early.1, inr (inr (fault, is, early.2)))

  -- one round, and no other
  pub once : {X : Type 0} (old new : WorldState) (opened : X) → AsksFor {S = X} (change old new) names (inputs_opened names) (Ok opened)
      → Asks (change old new) (OpensOnce names ended)
  once old new opened asked = (inputs_opened names, asked, inl ([], sym (append-nil (inputs_opened names)), refl))

  -- the inputs are opened again where they can be
  pub again : (known : Known) (is_text : Bool) (old new : WorldState) → is_text ≡ false → CanBeReadAgain known names
      → Asks (change old new) (Rounds 2 names ended) → Asks (change old new) (OpensAgain known is_text names ended)
  again known is_text old new bytes can asked = (asked.0, asked.1, inr (bytes, can, asked.2))

-- ---- names that these asks open, and then the table of symbols

module _ {opened : List Ask} (names : List (List ℕ)) (table : Option (List ℕ)) where
  -- a name could not be opened
  pub names_refused : (old new : WorldState) (fault : RunFault) → Asks (change old new) (EndsEarly names opened fault)
      → Asks (change old new) (OpensBy {S = Unit {0}} opened names table (Err fault) (λ more. ⊥))
  names_refused old new fault early = (early.0, early.1, inr (fault, refl, early.2))

  -- all of them were opened
  pub names_given : {S : Type 0} (old mid new : WorldState) (result : Result S RunFault)
      → IsAsked old mid opened → AsksForTable (change mid new) table result → AsksForAll (change old new) opened names table result
  names_given {S = S} old mid new result first then = with_table table result then
    where
      with_table : (table : Option (List ℕ)) (result : Result S RunFault) → AsksForTable (change mid new) table result
          → AsksForAll (change old new) opened names table result
      with_table None (Ok read) same = subst (λ world. IsAsked old world (opened ++ [])) (sym same) (asked_more first (asked_none mid))
      with_table None (Err fault) none = absurd none
      with_table (Some name) (Ok read) asked = asked_more first asked
      with_table (Some name) (Err fault) (why, told, asked) = (
        opened ++ to_read name (Some why) ∷ [],
        asked_more first asked,
        inl (to_read name (Some why) ∷ [], refl, inr (why, ap Err told, refl)),
      )

  module _ {S : Type 0} (ended : Result S RunFault) (Next : List Ask → Type 0) where
    -- what was asked for next follows
    pub all_then : {X : Type 0} (old mid new : WorldState) (read : X) → AsksForAll {S = X} (change old mid) opened names table (Ok read)
        → Asks (change mid new) Next → Asks (change old new) (OpensBy opened names table ended Next)
    all_then old mid new read first later = (
      (opened ++ table_asked table) ++ later.0,
      asked_more first later.1,
      inl (table_asked table ++ later.0, append_assoc opened (table_asked table) later.0, with_table table),
    )
      where
        with_table : (table : Option (List ℕ)) → Tabled table ended Next (table_asked table ++ later.0)
        with_table None = later.2
        with_table (Some name) = inl (later.0, refl, later.2)

    -- what ended before ends so, whatever it is that ends
    pub all_ended : (old new : WorldState) (fault : RunFault) → ended ≡ Err fault
        → AsksForAll {S = Unit {0}} (change old new) opened names table (Err fault)
        → Asks (change old new) (OpensBy opened names table ended Next)
    all_ended old new fault is early = (early.0, early.1, of_round early.2)
      where
        of_table : (table : Option (List ℕ)) (asks : List Ask) → Tabled {S = Unit {0}} table (Err fault) (λ more. ⊥) asks
            → Tabled table ended Next asks
        of_table None asks none = absurd none
        of_table (Some name) asks (inl (more, same, none)) = absurd none
        of_table (Some name) asks (inr (why, told, same)) = inr (why, is ∙ ap Err (same_fault _ _ _ refl told), same)

        of_round : OpensBy {S = Unit {0}} opened names table (Err fault) (λ more. ⊥) early.0 → OpensBy opened names table ended Next early.0
        of_round (inl (more, same, tabled)) = inl (more, same, of_table table more tabled)
        of_round (inr (other, told, ends)) = inr (other, is ∙ ap Err (same_fault _ _ _ refl told), ends)
