-- The law: an answer about a process, a handle or an object, sites, balances, or a summary, is the same over all events and over what is wanted for it.
use Rattle.htl_event.proofs.Wanted.{process_needs_its_own, listing_needs_its_handle, open_handles_need_wanted}
use Rattle.htl_event.proofs.Wanted.{sites_need_handles, object_needs_its_own}
use Rattle.htl_event.proofs.WantedSummaries.{summary_needs_no_stack}
use Rattle.htl_event.proofs.Balanced.{balances_need_no_stack, stacks_need_their_tag}
use Rattle.htl_event.proofs.laws.answers_need_what_is_wanted.Goals as goal

pub returns-clause-process : goal.returns-clause-process
returns-clause-process c = process_needs_its_own

pub returns-clause-handle : goal.returns-clause-handle
returns-clause-handle c = listing_needs_its_handle

pub returns-clause-open_handles : goal.returns-clause-open_handles
returns-clause-open_handles c = open_handles_need_wanted

pub returns-clause-all_handles : goal.returns-clause-all_handles
returns-clause-all_handles c = sites_need_handles

pub returns-clause-object : goal.returns-clause-object
returns-clause-object c = object_needs_its_own

pub returns-clause-summary : goal.returns-clause-summary
returns-clause-summary c = summary_needs_no_stack

pub returns-clause-balances : goal.returns-clause-balances
returns-clause-balances c = balances_need_no_stack

pub returns-clause-tag : goal.returns-clause-tag
returns-clause-tag c = stacks_need_their_tag
