-- A value is that of one row: its numbers are read back from their digits.
use Rattle.std.proofs.Common.{◌≡◌, ℕ, zero, suc, ◌-◌, ◌<◌, ◌^◌, List, [], ◌∷◌, drop, length, map}
use Rattle.std.proofs.Common.{refl, sym, ap, ◌∙◌, arith, false}
use Rattle.std.specs.Prelude.{◌==◌, if◌then◌else◌, slice_index}
use Rattle.std.specs.Str.Parse.{digits_value}
use Rattle.std.proofs.lemmas.Fmt.{decimal_injective, digits_is_IsNumeral}
use Rattle.std.specs.Result.{result_unwrap_or}
use Rattle.json.specs.Json.{Json, Items, Members, null, string, number, array, object, no_items, item, no_members, member}
use Rattle.json.specs.Value.{items_of}
use Rattle.hex.specs.Hex.{IsBytes, decode_of, encode_lower}
use Rattle.hex.proofs.HexLemmas.{decode_of-encode_lower}
use Rattle.htl_lemmas.proofs.Padding.{after_zeros}
use Rattle.htl_event.specs.Balances.{Balance}
use Rattle.htl_event.specs.Events.{Event}
use Rattle.htl_event.specs.Ranges.{InRange}
use Rattle.htl_event.specs.Sites.{Site}
use Rattle.htl_event.specs.Slots.{base_of}
use Rattle.htl_event.specs.Words.{word_of}
use Rattle.htl_event.specs.declared.growth.Point.{Point}
use Rattle.htl_event.specs.declared.kind.Kind.{Kind}
use Rattle.htl_event.specs.declared.kind.Kind.TheVariants.{Opened, Closed, BadRef, Snapshot, Ref, Deref, Exited}
use Rattle.htl_event.specs.declared.slot.Count.{Count}
use Rattle.htl_event.specs.declared.summary.ObjectRow.{ObjectRow}
use Rattle.htl_event.specs.declared.summary.ProcessRow.{ProcessRow}
use Rattle.htl_numbers.specs.Written.{hex, padded}
use Rattle.htl_symbols.specs.Ranges.{Range}
use Rattle.htl_taken.specs.declared.gap.Gap.{Gap}
use Rattle.htl_taken.specs.declared.gap.Gap.TheVariants.{Between, Absent}
use Rattle.htl_json.specs.Frames.{address_fields, frame, stack_fields}
use Rattle.htl_json.specs.Laws.{AreAddresses, IsCount, IsGap, IsNumber, IsObjectRow, IsOneRow, IsPoint, IsProcessRow, IsSiteRow, IsTag, IsTagRow, IsTagStack}
use Rattle.htl_json.specs.Records.{count_fields, quantity, shown_address, shown_handle, tag_fields}
use Rattle.htl_json.specs.Rows.{absent_fields, bad_fields, bad_reference, balance_fields, balance_row, between_fields, counted_stack, event_fields}
use Rattle.htl_json.specs.Rows.{handles_field, leak, listed, missing, objects_field, opened, point_fields, point_row, process_fields}
use Rattle.htl_json.specs.Rows.{process_row, site_fields, site_row, tag_balance, tag_stack, object_fields, unbalanced_object}

-- ---- parts of a value

abbrev text_in : Json → List ℕ
text_in (string s) = s
text_in (number s) = s
text_in other = []

abbrev items_in : Json → Items
items_in (array items) = items
items_in other = no_items

abbrev member_at : ℕ → Members → Json
member_at n no_members = null
member_at zero (member key value more) = value
member_at (suc n) (member key value more) = member_at n more

-- the value of the field at a place
abbrev value_at : ℕ → Json → Json
value_at n (object members) = member_at n members
value_at n other = null

abbrev first_item : Items → Json
first_item no_items = null
first_item (item value more) = value

abbrev later_items : Items → Items
later_items no_items = no_items
later_items (item value more) = more

-- ---- numbers

one_number : (m n : ℕ) → IsNumber m → IsNumber n → quantity m ≡ quantity n → m ≡ n
one_number m n fit also same = decimal_injective m n fit also (ap text_in same)

hex_value : (n : ℕ) → IsNumber n → digits_value 16 (hex n) ≡ n
hex_value n fit = (digits_is_IsNumeral 16 false (omega arith) (omega arith) n (omega arith)).1

padded_value : (n : ℕ) → IsNumber n → digits_value 16 (padded 16 n) ≡ n
padded_value n fit = after_zeros (16 - length (hex n)) (hex n) ∙ hex_value n fit

-- the number after `0x`
abbrev number_in : Json → ℕ
number_in value = digits_value 16 (drop 2 (text_in value))

one_handle : (m n : ℕ) → IsNumber m → IsNumber n → shown_handle m ≡ shown_handle n → m ≡ n
one_handle m n fit also same = sym (hex_value m fit) ∙ ap number_in same ∙ hex_value n also

one_address : (m n : ℕ) → IsNumber m → IsNumber n → shown_address m ≡ shown_address n → m ≡ n
one_address m n fit also same = sym (padded_value m fit) ∙ ap number_in same ∙ padded_value n also

small : (n : ℕ) → n < 2 ^ 32 → IsNumber n
small n fit = omega (arith, fit)

-- ---- kinds

-- the kind whose word has this first letter
abbrev kind_by : ℕ → Kind
kind_by letter =
    if letter == 79 then Opened else if letter == 67 then Closed else if letter == 66 then BadRef else if letter == 83 then Snapshot
    else if letter == 82 then Ref else if letter == 68 then Deref else Exited

abbrev kind_in : List ℕ → Kind
kind_in word = kind_by (slice_index word 0)

of_word : (kind : Kind) → kind_in (word_of kind) ≡ kind
of_word Opened = refl
of_word Closed = refl
of_word BadRef = refl
of_word Snapshot = refl
of_word Ref = refl
of_word Deref = refl
of_word Exited = refl

one_kind : (kind other : Kind) → word_of kind ≡ word_of other → kind ≡ other
one_kind kind other same = sym (of_word kind) ∙ ap kind_in same ∙ of_word other

-- ---- stacks

module _ (symbols : List Range) where
  one_frame : (m n : ℕ) → IsNumber m → IsNumber n → frame symbols m ≡ frame symbols n → m ≡ n
  unfolding address_fields
  one_frame m n fit also same = one_address m n fit also (ap (value_at 0) same)

  one_list : (xs ys : List ℕ) → AreAddresses xs → AreAddresses ys
      → items_of (map (frame symbols) xs) ≡ items_of (map (frame symbols) ys) → xs ≡ ys
  one_list [] [] fit also same = refl
  one_list [] (y ∷ ys) fit also same = absurd cc
  one_list (x ∷ xs) [] fit also same = absurd cc
  one_list (x ∷ xs) (y ∷ ys) fit also same =
      let head : x ≡ y = one_frame x y fit.0 also.0 (ap first_item same) in
      let tail : xs ≡ ys = one_list xs ys fit.1 also.1 (ap later_items same) in
      λ t. head t ∷ tail t

  abbrev stack_in : List ℕ → Json
  stack_in stack = array (items_of (map (frame symbols) stack))

  one_stack : (xs ys : List ℕ) → AreAddresses xs → AreAddresses ys → stack_in xs ≡ stack_in ys → xs ≡ ys
  one_stack xs ys fit also same = one_list xs ys fit also (ap items_in same)

  -- ---- rows with a stack

  -- where two events have one value as open handles, their base handles, sequences, threads and stacks are equal
  one_opened : (a b : Event) → InRange a → InRange b → opened symbols a ≡ opened symbols b
      → (base_of a.handle ≡ base_of b.handle) × (a.sequence ≡ b.sequence) × (a.thread ≡ b.thread) × (a.stack ≡ b.stack)
  unfolding event_fields stack_fields
  one_opened a b fit also same = (
    one_handle (base_of a.handle) (base_of b.handle) (small_base a.handle fit.handle) (small_base b.handle also.handle) (ap (value_at 1) same),
    one_number a.sequence b.sequence fit.sequence also.sequence (ap (value_at 2) same),
    one_number a.thread b.thread (small a.thread fit.thread) (small b.thread also.thread) (ap (value_at 3) same),
    one_stack a.stack b.stack fit.stack also.stack (ap (value_at 4) same),
  )
    where
      small_base : (handle : ℕ) → handle < 2 ^ 32 → IsNumber (base_of handle)
      small_base handle fits = omega (arith, fits)

  -- where two events have one value in a listing, their kinds, handles, sequences, threads and stacks are equal
  one_listed : (a b : Event) → InRange a → InRange b → listed symbols a ≡ listed symbols b
      → (a.kind ≡ b.kind) × (a.handle ≡ b.handle) × (a.sequence ≡ b.sequence) × (a.thread ≡ b.thread) × (a.stack ≡ b.stack)
  unfolding event_fields stack_fields
  one_listed a b fit also same = (
    one_kind a.kind b.kind (ap (λ value. text_in (value_at 0 value)) same),
    one_handle a.handle b.handle (small a.handle fit.handle) (small b.handle also.handle) (ap (value_at 1) same),
    one_number a.sequence b.sequence fit.sequence also.sequence (ap (value_at 2) same),
    one_number a.thread b.thread (small a.thread fit.thread) (small b.thread also.thread) (ap (value_at 3) same),
    one_stack a.stack b.stack fit.stack also.stack (ap (value_at 4) same),
  )

  -- where two rows of bad references have one value, they are equal
  one_bad_reference : (handle other : ℕ) (stack frames : List ℕ) (times often : ℕ) → IsNumber handle → IsNumber other
      → AreAddresses stack → AreAddresses frames → IsNumber times → IsNumber often
      → bad_reference symbols (handle, stack, times) ≡ bad_reference symbols (other, frames, often)
      → (handle ≡ other) × (stack ≡ frames) × (times ≡ often)
  unfolding bad_fields stack_fields
  one_bad_reference handle other stack frames times often h o s f t n same = (
    one_handle handle other h o (ap (value_at 1) same),
    one_stack stack frames s f (ap (value_at 3) same),
    one_number times often t n (ap (value_at 2) same),
  )

  -- where two rows of leaking stacks have one value, they are equal
  one_leak : (stack frames : List ℕ) (handles other : ℕ) → AreAddresses stack → AreAddresses frames → IsNumber handles → IsNumber other
      → leak symbols (stack, handles) ≡ leak symbols (frames, other) → (stack ≡ frames) × (handles ≡ other)
  unfolding handles_field stack_fields
  one_leak stack frames handles other s f h o same = (
    one_stack stack frames s f (ap (value_at 1) same),
    one_number handles other h o (ap (value_at 0) same),
  )

  -- where two sites have one value, they are equal
  one_site : (a b : Site) → IsSiteRow a → IsSiteRow b → site_row symbols a ≡ site_row symbols b → a ≡ b
  unfolding site_fields stack_fields
  one_site a b fit also same =
      let stack = one_stack a.stack b.stack fit.0 also.0 (ap (value_at 2) same) in
      let handles = one_number a.handles b.handles fit.1 also.1 (ap (value_at 0) same) in
      let processes = one_number a.processes b.processes fit.2 also.2 (ap (value_at 1) same) in
      λ t. record { stack = stack t; handles = handles t; processes = processes t }

  -- where two rows of reference stacks have one value, they are equal
  one_counted : (stack frames : List ℕ) (count other : Count) → AreAddresses stack → AreAddresses frames → IsCount count → IsCount other
      → counted_stack symbols (stack, count) ≡ counted_stack symbols (frames, other) → (stack ≡ frames) × (count ≡ other)
  unfolding count_fields stack_fields
  one_counted stack frames count other s f c o same =
      let plus = one_number count.plus other.plus c.0 o.0 (ap (value_at 0) same) in
      let minus = one_number count.minus other.minus c.1 o.1 (ap (value_at 1) same) in
      (one_stack stack frames s f (ap (value_at 2) same), λ t. record { plus = plus t; minus = minus t })

  -- where two stacks have one value over all objects, they are equal
  one_tag_stack : (a b : Balance) → IsTagStack a → IsTagStack b → tag_stack symbols a ≡ tag_stack symbols b → a ≡ b
  unfolding count_fields objects_field stack_fields
  one_tag_stack a b fit also same =
      let stack = one_stack a.by b.by fit.0 also.0 (ap (value_at 3) same) in
      let plus = one_number a.count.plus b.count.plus fit.1.0 also.1.0 (ap (value_at 0) same) in
      let minus = one_number a.count.minus b.count.minus fit.1.1 also.1.1 (ap (value_at 1) same) in
      let objects = one_number a.objects b.objects fit.2 also.2 (ap (value_at 2) same) in
      λ t. record { by = stack t; count = record { plus = plus t; minus = minus t }; objects = objects t }

-- ---- rows without one

are_bytes : (bytes : List ℕ) → IsTag bytes → IsBytes bytes
are_bytes [] h k = omega arith
are_bytes (b ∷ bs) h zero = h.0
are_bytes (b ∷ bs) h (suc k) = are_bytes bs h.1 k

one_tag : (tag bytes : List ℕ) → IsTag tag → IsTag bytes → encode_lower tag ≡ encode_lower bytes → tag ≡ bytes
one_tag tag bytes fit also same =
    ap (λ found. result_unwrap_or found [])
    (sym (decode_of-encode_lower tag (are_bytes tag fit)) ∙ ap decode_of same ∙ decode_of-encode_lower bytes (are_bytes bytes also))

-- where two rows of tags have one value, they are equal
one_balance : (tag bytes : List ℕ) (count other : Count) → IsTag tag → IsTag bytes → IsCount count → IsCount other
    → tag_balance (tag, count) ≡ tag_balance (bytes, other) → (tag ≡ bytes) × (count ≡ other)
unfolding tag_fields count_fields balance_fields
one_balance tag bytes count other s f c o same =
    let plus = one_number count.plus other.plus c.0 o.0 (ap (value_at 2) same) in
    let minus = one_number count.minus other.minus c.1 o.1 (ap (value_at 3) same) in
    (one_tag tag bytes s f (ap (λ value. text_in (value_at 1 value)) same), λ t. record { plus = plus t; minus = minus t })

-- where two tags have one value over all objects, they are equal
one_balance_row : (a b : Balance) → IsTagRow a → IsTagRow b → balance_row a ≡ balance_row b → a ≡ b
unfolding tag_fields count_fields balance_fields objects_field
one_balance_row a b fit also same =
    let tag = one_tag a.by b.by fit.0 also.0 (ap (λ value. text_in (value_at 1 value)) same) in
    let plus = one_number a.count.plus b.count.plus fit.1.0 also.1.0 (ap (value_at 2) same) in
    let minus = one_number a.count.minus b.count.minus fit.1.1 also.1.1 (ap (value_at 3) same) in
    let objects = one_number a.objects b.objects fit.2 also.2 (ap (value_at 6) same) in
    λ t. record { by = tag t; count = record { plus = plus t; minus = minus t }; objects = objects t }

-- where two points of a growth have one value, they are equal
one_point : (a b : Point) → IsPoint a → IsPoint b → point_row a ≡ point_row b → a ≡ b
unfolding point_fields
one_point a b fit also same =
    let sequence = one_number a.sequence b.sequence fit.0 also.0 (ap (value_at 0) same) in
    let outstanding = one_number a.outstanding b.outstanding fit.1 also.1 (ap (value_at 1) same) in
    λ t. record { sequence = sequence t; outstanding = outstanding t }

-- where two gaps have one value, they are equal
one_gap : (a b : Gap) → IsGap a → IsGap b → missing a ≡ missing b → a ≡ b
unfolding between_fields absent_fields
one_gap (Between p from to) (Between q low high) fit also same =
    let processor = one_number p q fit.0 also.0 (ap (value_at 1) same) in
    let first = one_number from low fit.1 also.1 (ap (value_at 2) same) in
    let last = one_number to high fit.2 also.2 (ap (value_at 3) same) in
    λ t. Between (processor t) (first t) (last t)
one_gap (Between p from to) (Absent q) fit also same = (let never = ap (value_at 3) same in absurd cc)
one_gap (Absent p) (Between q low high) fit also same = (let never = ap (value_at 3) same in absurd cc)
one_gap (Absent p) (Absent q) fit also same = ap Absent (one_number p q fit also (ap (value_at 1) same))

-- where two rows of processes have one value, they are equal
one_process : (a b : ProcessRow) → IsProcessRow a → IsProcessRow b → process_row a ≡ process_row b → a ≡ b
unfolding process_fields
one_process a b fit also same =
    let process = one_number a.process b.process fit.process also.process (ap (value_at 1) same) in
    let outstanding = one_number a.outstanding b.outstanding fit.outstanding also.outstanding (ap (value_at 2) same) in
    let opens = one_number a.opens b.opens fit.opens also.opens (ap (value_at 3) same) in
    let closes = one_number a.closes b.closes fit.closes also.closes (ap (value_at 4) same) in
    let bad = one_number a.bad b.bad fit.bad also.bad (ap (value_at 5) same) in
    let mark = one_number a.mark b.mark fit.mark also.mark (ap (value_at 6) same) in
    let exit = one_number a.exit b.exit fit.exit also.exit (ap (value_at 7) same) in
    λ t. record {
      process = process t;
      outstanding = outstanding t;
      opens = opens t;
      closes = closes t;
      bad = bad t;
      mark = mark t;
      exit = exit t;
    }

-- where two rows of objects have one value, they are equal
one_object : (a b : ObjectRow) → IsObjectRow a → IsObjectRow b → unbalanced_object a ≡ unbalanced_object b → a ≡ b
unfolding object_fields count_fields
one_object a b fit also same =
    let object = one_address a.object b.object fit.object also.object (ap (value_at 1) same) in
    let tags = one_number a.tags b.tags fit.tags also.tags (ap (value_at 2) same) in
    let unbalanced = one_number a.unbalanced b.unbalanced fit.unbalanced also.unbalanced (ap (value_at 3) same) in
    let refs = one_number a.refs b.refs fit.refs also.refs (ap (value_at 4) same) in
    let derefs = one_number a.derefs b.derefs fit.derefs also.derefs (ap (value_at 5) same) in
    λ t. record { object = object t; tags = tags t; unbalanced = unbalanced t; refs = refs t; derefs = derefs t }

-- ---- rows of all forms

-- where two rows of one form have one value, they agree in all that the value shows
pub one_row : (symbols : List Range) → IsOneRow symbols
one_row symbols = record {
  outstanding = one_opened symbols;
  listing = one_listed symbols;
  bad = one_bad_reference symbols;
  leaks = one_leak symbols;
  sites = one_site symbols;
  stacks = one_counted symbols;
  tags = one_balance;
  balances = one_balance_row;
  tag_stacks = one_tag_stack symbols;
  growth = one_point;
  gaps = one_gap;
  processes = one_process;
  objects = one_object;
}
