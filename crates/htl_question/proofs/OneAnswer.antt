-- A question has one answer over a basis.
use Rattle.std.proofs.Common.{◌≡◌, ℕ, List, Option, Some, None, ap, sym, subst, ◌∙◌}
use Rattle.std.proofs.lemmas.List.Sorted.{IsPermutation-refl}
use Rattle.htl_event.specs.Events.{Event}
use Rattle.htl_event.specs.Balances.{BalancesAreDetermined}
use Rattle.htl_event.specs.Laws.{HandlesAreDetermined, CountsAreDetermined}
use Rattle.htl_event.specs.Summaries.{SummariesAreDetermined}
use Rattle.htl_event.specs.declared.since.Since.{Since}
use Rattle.htl_event.specs.declared.since.Since.TheVariants.{Snapshot, Sequence}
use Rattle.htl_event.proofs.Determined.{handles_are_determined}
use Rattle.htl_event.proofs.Counts.{counts_are_determined}
use Rattle.htl_event.proofs.Summarized.{summaries_are_determined}
use Rattle.htl_event.proofs.Balanced.{balances_are_determined}
use Rattle.htl_question.specs.Answers.{Are, AreRows, IsAnswerOver, IsSince, IsSinceIfGiven, after, process_of}
use Rattle.htl_question.specs.Bases.{Basis}
use Rattle.htl_question.specs.Questions.{asks_since}
use Rattle.htl_question.specs.Rows.{Found, Listed, opens, listing, tags, bad, leaks, sites, stacks, balances, tag_stacks, points}
use Rattle.htl_question.specs.Rows.{summary}
use Rattle.htl_question.specs.declared.answer.Totals.{Totals}
use Rattle.htl_question.specs.declared.question.Question.{Question}
use Rattle.htl_question.specs.declared.question.Question.TheVariants as questions

handles : (es : List Event) → HandlesAreDetermined es es
handles es = handles_are_determined es es (λ e. ((λ h. h), (λ h. h)))

counts : (es : List Event) → CountsAreDetermined es es
counts es = counts_are_determined es es (IsPermutation-refl es)

summaries : (es : List Event) → SummariesAreDetermined es es
summaries es = summaries_are_determined es es (IsPermutation-refl es)

over_objects : (es : List Event) → BalancesAreDetermined es es
over_objects es = balances_are_determined es es (IsPermutation-refl es)

one_since : (es : List Event) (process : ℕ) (since : Since) (m n : ℕ) → IsSince es process since m → IsSince es process since n → m ≡ n
one_since es process (Sequence since) m n p q = p ∙ sym q
one_since es process Snapshot m n p q = (handles es).mark process m n p q

one_since_if_given : (es : List Event) (process : ℕ) (since : Option Since) (m n : Option ℕ) → IsSinceIfGiven es process since m
    → IsSinceIfGiven es process since n → m ≡ n
one_since_if_given es process None m n p q = p ∙ sym q
one_since_if_given es process (Some since) m n p q =
    p.1 ∙ ap (λ (k : ℕ). Some k) (one_since es process since p.0 q.0 p.2 q.2) ∙ sym q.1

-- two lists of rows of one form are one, if what is said of them determines it
same_list : {R : Type 0} (form : List R → Listed) (Holds : List R → Type 0) → ((x y : List R) → Holds x → Holds y → x ≡ y) → (a b : Listed)
    → Are form Holds a → Are form Holds b → a ≡ b
same_list form Holds one a b p q = p.1 ∙ ap form (one p.0 q.0 p.2 q.2) ∙ sym q.1

one_totals : (a b : Totals) → a.processors ≡ b.processors → a.segments ≡ b.segments → a.events ≡ b.events
    → a.complete_to ≡ b.complete_to → a.objects ≡ b.objects → a ≡ b
one_totals a b ps ss es cs os =
    λ i. record { processors = ps i; segments = ss i; events = es i; complete_to = cs i; objects = os i }

one_rows : (B : Basis) (question : Question) (since : Option ℕ) (a b : Listed) → AreRows B question since a → AreRows B question since b
    → a ≡ b
one_rows B questions.Summary since a b (t, gs, ps, os, is, p) (u, hs, qs, ns, are, q) =
    let law = summaries B.events in
    let totals = one_totals t u (p.processors ∙ sym q.processors) (p.segments ∙ sym q.segments) (p.events_are ∙ sym q.events_are)
    (p.complete_to ∙ sym q.complete_to) (law.objects t.objects u.objects p.number q.number) in
    let gaps = p.gaps_are ∙ sym q.gaps_are in
    let processes = law.processes ps qs p.processes_are q.processes_are in
    let objects = law.unbalanced os ns p.objects_are q.objects_are in
    is ∙ (λ i. summary (totals i) (gaps i) (processes i) (objects i)) ∙ sym are
one_rows B (questions.Outstanding process) since a b p q = same_list opens _ ((handles B.events).outstanding process) a b p q
one_rows B (questions.Diff process from) since a b p q = same_list opens _ ((handles B.events).diff process (after since)) a b p q
one_rows B (questions.Tags object) since a b p q = same_list tags _ ((counts B.events).tags object) a b p q
one_rows B (questions.Bad process) since a b p q = same_list bad _ ((counts B.events).bad process) a b p q
one_rows B (questions.Leaks process from least) since a b p q = same_list leaks _ ((handles B.events).leaks process since least) a b p q
one_rows B (questions.Sites from least) since a b p q = same_list sites _ ((handles B.events).sites from least) a b p q
one_rows B (questions.Stacks object tag) since a b p q = same_list stacks _ ((counts B.events).stacks object tag) a b p q
one_rows B (questions.Balance all) since a b (m, xs, is, number, p) (n, ys, are, numbered, q) =
    let objects = (summaries B.events).objects m n number numbered in
    let rows = (over_objects B.events).tags all xs ys p q in
    is ∙ (λ i. balances (objects i) (rows i)) ∙ sym are
one_rows B (questions.TagStacks tag) since a b p q = same_list tag_stacks _ ((over_objects B.events).stacks tag) a b p q
one_rows B (questions.Trace process handle) since a b p q = same_list listing _ ((handles B.events).listing process handle) a b p q
one_rows B (questions.Growth process count) since a b p q = same_list points _ ((handles B.events).growth process B.span count) a b p q

same_found : (a b : Found) → a.question ≡ b.question → a.since ≡ b.since → a.rows ≡ b.rows → a ≡ b
same_found a b asked since rows = λ i. record { question = asked i; since = since i; rows = rows i }

pub one_answer : (B : Basis) (question : Question) (a b : Found) → IsAnswerOver B question a → IsAnswerOver B question b → a ≡ b
one_answer B question a b p q =
    let since = one_since_if_given B.events (process_of question) (asks_since question) a.since b.since p.since q.since in
    let rows = subst (λ (s : Option ℕ). AreRows B question s a.rows) since p.rows in
    same_found a b (p.asked ∙ sym q.asked) since (one_rows B question b.since a.rows b.rows rows q.rows)
