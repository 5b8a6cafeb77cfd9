-- Events are equal where their fields are, and `==` says so.
use Rattle.std.proofs.Common.{◌≡◌, ℕ, List, true, ◌&&◌, eqb, nat_eq, refl, ap, ◌∙◌, rules, Decides}
use Rattle.std.specs.Cmp.{unsigned_Decides}
use Rattle.std.specs.Cmp.Lexicographic.{pointwise, pointwise_decides}
use Rattle.std.proofs.lemmas.Bool.Decides.{Decides-and, Decides-like, Decides-eqb}
use Rattle.htl_event.specs.Events.{Event}
use Rattle.htl_event.specs.declared.kind.Kind.{Kind}
use Rattle.htl_event.specs.declared.kind.Kind.TheVariants as kinds
use Rattle.htl_event.specs.contracts.kind.Kind.{the_type}
use denote.Enum.Bare.{sameb, same_true}

sameb-self : (k : Kind) → sameb the_type k k ≡ true
sameb-self kinds.Opened = refl
sameb-self kinds.Closed = refl
sameb-self kinds.BadRef = refl
sameb-self kinds.Snapshot = refl
sameb-self kinds.Ref = refl
sameb-self kinds.Deref = refl
sameb-self kinds.Exited = refl

kinds_decide : (a b : Kind) → Decides (sameb the_type a b) (a ≡ b)
kinds_decide a b = (
  same_true the_type (search rules) a b,
  λ e. ap (λ (k : Kind). sameb the_type k b) e ∙ sameb-self b,
)

abbrev event : ℕ → Kind → ℕ → ℕ → ℕ → ℕ → List ℕ → List ℕ → Event
event sequence kind process thread handle object tag stack = record {
  sequence = sequence;
  kind = kind;
  process = process;
  thread = thread;
  handle = handle;
  object = object;
  tag = tag;
  stack = stack;
}

-- events with equal fields are equal
same_event : (a b : Event) → a.sequence ≡ b.sequence → a.kind ≡ b.kind → a.process ≡ b.process → a.thread ≡ b.thread
    → a.handle ≡ b.handle → a.object ≡ b.object → a.tag ≡ b.tag → a.stack ≡ b.stack → a ≡ b
same_event a b sequence kind process thread handle object tag stack =
    ap (λ (x : ℕ). event x a.kind a.process a.thread a.handle a.object a.tag a.stack) sequence
    ∙ ap (λ (x : Kind). event b.sequence x a.process a.thread a.handle a.object a.tag a.stack) kind
    ∙ ap (λ (x : ℕ). event b.sequence b.kind x a.thread a.handle a.object a.tag a.stack) process
    ∙ ap (λ (x : ℕ). event b.sequence b.kind b.process x a.handle a.object a.tag a.stack) thread
    ∙ ap (λ (x : ℕ). event b.sequence b.kind b.process b.thread x a.object a.tag a.stack) handle
    ∙ ap (λ (x : ℕ). event b.sequence b.kind b.process b.thread b.handle x a.tag a.stack) object
    ∙ ap (λ (x : List ℕ). event b.sequence b.kind b.process b.thread b.handle b.object x a.stack) tag
    ∙ ap (λ (x : List ℕ). event b.sequence b.kind b.process b.thread b.handle b.object b.tag x) stack

-- `==` of events says whether they are equal
pub events_decide : (a b : Event)
    → Decides (eqb a.sequence b.sequence
    && (sameb the_type a.kind b.kind
    && (eqb a.process b.process
    && (eqb a.thread b.thread
    && (eqb a.handle b.handle
    && (eqb a.object b.object && (pointwise nat_eq a.tag b.tag && pointwise nat_eq a.stack b.stack))))))) (a ≡ b)
events_decide a b =
    let lists = pointwise_decides unsigned_Decides in
    let all =
    Decides-and _ _ (Decides-eqb a.sequence b.sequence)
    (Decides-and _ _ (kinds_decide a.kind b.kind)
    (Decides-and _ _ (Decides-eqb a.process b.process)
    (Decides-and _ _ (Decides-eqb a.thread b.thread)
    (Decides-and _ _ (Decides-eqb a.handle b.handle)
    (Decides-and _ _ (Decides-eqb a.object b.object) (Decides-and _ _ (lists a.tag b.tag) (lists a.stack b.stack))))))) in
    Decides-like _ (λ p. same_event a b p.0 p.1.0 p.1.1.0 p.1.1.1.0 p.1.1.1.1.0 p.1.1.1.1.1.0 p.1.1.1.1.1.1.0 p.1.1.1.1.1.1.1)
    (λ e. (cc, (cc, (cc, (cc, (cc, (cc, (cc, cc)))))))) all
