-- Why arguments are wrong is said by their sort.
use Rattle.std.proofs.Common.{◌≡◌, Ok, Err, map, rules, string_bytes, subst, sym}
use Rattle.std.specs.Prelude.{IfOk, Result}
use Rattle.htl_command.specs.Helps.{IsHelp}
use Rattle.htl_command.specs.declared.fault.ParseFault.{ParseFault}
use Rattle.htl_dialogue.specs.Replying.{HasReason}
use Rattle.htl_dialogue.specs.Sayings.{sort_of}
use Rattle.htl_dialogue.specs.declared.saying.Said.{Said}
use Rattle.htl_dialogue.specs.declared.saying.Said.TheVariants as said
use Rattle.htl_dialogue.specs.declared.sorting.Sort.TheVariants as sort
use Rattle.htl_dialogue.proofs.saying.said_by.Goals as goal

-- a line that is wrong for the sake of help has this help for its fault
helped : {E : Type 0} (fault : ParseFault) → IsHelp fault → (result : Result Said E) → IfOk result (HasReason (λ kept. kept ≡ fault))
    → IfOk result (HasReason IsHelp)
helped fault is (Ok (said.Wrong kept)) has = (has.0, subst IsHelp (sym has.1) is)
helped fault is (Ok said.Nothing) has = tt
helped fault is (Ok said.Quits) has = tt
helped fault is (Ok (said.Asks job)) has = tt
helped fault is (Ok (said.Reads files)) has = tt
helped fault is (Ok (said.Uses process)) has = tt
helped fault is (Ok (said.Merges name)) has = tt
helped fault is (Ok (said.Saves name)) has = tt
helped fault is (Err refused) has = tt

pub returns-in-Help-clause-fault : goal.returns-in-Help-clause-fault
returns-in-Help-clause-fault c =
    let is : sort_of (map string_bytes c.args.arguments.items) ≡ sort.Help = search rules in
    rw is (helped c.help_of.result c.help_of.ensures c.wrong.result c.wrong.ensures.fault)

pub returns-in-Process-clause-fault : goal.returns-in-Process-clause-fault
returns-in-Process-clause-fault c =
    let is : sort_of (map string_bytes c.args.arguments.items) ≡ sort.Process = search rules in
    rw is (search rules)

pub returns-in-Merge-clause-fault : goal.returns-in-Merge-clause-fault
returns-in-Merge-clause-fault c =
    let is : sort_of (map string_bytes c.args.arguments.items) ≡ sort.Merge = search rules in
    rw is (search rules)

pub returns-in-Save-clause-fault : goal.returns-in-Save-clause-fault
returns-in-Save-clause-fault c =
    let is : sort_of (map string_bytes c.args.arguments.items) ≡ sort.Save = search rules in
    rw is (search rules)
