-- A read of a record takes the first of those that the reader has left, or finds none.
use Rattle.std.proofs.Common.{◌≡◌, ◌≢◌, ◌≤◌, ◌+◌, arith, length, ℕ, Bool, true, false, List, [], ◌∷◌, Option, Some, None, refl, ◌∙◌, inl}
use Rattle.std.specs.Borrow.{Bor}
use Rattle.std.specs.Prelude.{IsSome, Ok, Err, unwrap_or}
use Rattle.csv.specs.Machine.{next_record}
use Rattle.csv.specs.Reading.{ExplainsRead, NextIs, ReadRecord, ReadsNext, default_config, is_flexible, pending_of}
use Rattle.csv.specs.Reading.{reader_state, records_from, source_of, strip_bom, took_first}
use Rattle.csv.specs.Records.{AllText}
use Rattle.csv.specs.declared.parser.State.{State}
use Rattle.csv.specs.declared.parser.State.TheVariants as st
use Rattle.htl_symbols.specs.Reading.{records_of}
use Rattle.htl_symbols.specs.Records.{IsAtRecord, SliceReader, bytes_left, is_start, records_left}
use Rattle.htl_symbols.specs.Rows.{Record}
use Rattle.htl_symbols.specs.Steps.{RecordRead}
use Rattle.csv.specs.declared.error.ErrorKind.{ErrorKind}
use Rattle.csv.specs.declared.error.ErrorKind.TheVariants as k
use Rattle.std.specs.declared.io.Error.{Error as IoError}
use Rattle.htl_symbols.specs.declared.fault.SymbolFault.TheVariants as fault
use Rattle.csv.proofs.ReadFacts.{rows-end}
use Rattle.htl_symbols.proofs.RecordEnds.{next-starts}
use Rattle.htl_symbols.proofs.Records.{length-strip_bom, records-few, records-more, records-none}

-- the bytes left, if they are known
abbrev source : SliceReader → Option (List ℕ)
source reader = source_of (λ s. Some s.now) reader

-- the bytes that a reader has left are known
known-bytes : (reader : SliceReader) → IsSome (source reader) → source reader ≡ Some (bytes_left reader)
known-bytes reader known = of (source reader) known
  where
    of : (o : Option (List ℕ)) → IsSome o → o ≡ Some (unwrap_or o [])
    of (Some xs) h = refl
    of None h = absurd (cc)

-- a read that took a record, by the record and what is left after it
reads-some : (s : State) (xs : List ℕ) (k : Option (List ℕ)) (f : Record) (t : State) → ReadsNext default_config s (Some xs) k true f t
    → (ys : List ℕ) × (k ≡ Some ys) × (next_record default_config s [] [] xs ≡ Some (f, t, ys))
reads-some s xs None f t h = absurd h
reads-some s xs (Some ys) f t h = (ys, refl, next-some (next_record default_config s [] [] xs) h)
  where
    next-some : (o : Option (List (List ℕ) × State × List ℕ)) → NextIs o true f t ys → o ≡ Some (f, t, ys)
    next-some None h = absurd (cc)
    next-some (Some p) h = rw (h.1, h.2, h.3) refl

-- a read that took a record took the first of those left
took-first : (a : SliceReader) (k : Option (List ℕ)) (f : Record) (t : State) → IsAtRecord a
    → ReadsNext a.config a.state (source a) k true f t
    → (ys : List ℕ) × (k ≡ Some ys) × (is_start t ≡ true) × (records_left a ≡ f ∷ records_from default_config (length ys + 1) t ys)
unfolding records_left
took-first a k f t at r =
    let some = reads-some a.state (bytes_left a) k f t (rw (at.config, known-bytes a at.known) at r) in (
      some.0,
      some.1,
      next-starts a.state [] [] (bytes_left a) (f, t, some.0) some.2,
      records-more a.state (bytes_left a) (f, t, some.0)
          at.start some.2,
    )

-- a read that found a record
read-found : (number : ℕ) (a b : SliceReader) (f : Record) → IsAtRecord a → ReadRecord (λ s. Some s.now) a b true f
    → is_flexible b ≡ is_flexible a → took_first b ≡ true → AllText f → RecordRead number a b f (Ok true)
unfolding records_left
read-found number a b f at r flexible first text =
    let took = took-first a (pending_of (Some b.rdr.now) b) f b.state at r.0 in
    let left : source b ≡ Some took.0 = rw r.1 took.1 in (
      record {
        trim = r.3 ∙ at.trim;
        ready = inl first;
        config = r.2 ∙ at.config;
        flexible = flexible ∙ at.flexible;
        known = rw left refl;
        start = took.2;
      },
      rw left took.3,
      text,
    )

-- a read that found none
read-end : (number : ℕ) (a b : SliceReader) (f : Record) → IsAtRecord a → ReadRecord (λ s. Some s.now) a b false f
    → RecordRead number a b f (Ok false)
unfolding records_left
read-end number a b f at r =
    records-none a.state (bytes_left a)
    (rows-end (λ (s : Bor (List ℕ)). Some s.now) a b f default_config (bytes_left a) at.config (known-bytes a at.known) r)

-- what a read that isn't refused says
pub read-ok : (number : ℕ) (a b : SliceReader) (f : Record) (found : Bool) → IsAtRecord a → ReadRecord (λ s. Some s.now) a b found f
    → is_flexible b ≡ is_flexible a → took_first b ≡ true → AllText f → RecordRead number a b f (Ok found)
read-ok number a b f true at r flexible first text = read-found number a b f at r flexible first text
read-ok number a b f false at r flexible first text = read-end number a b f at r

-- and one that is refused for another cause than memory and the source
pub read-refused : (number : ℕ) (a b : SliceReader) (f : Record) (kind : ErrorKind) → IsAtRecord a
    → ExplainsRead (λ s. Some s.now) a b true kind
    → ((e : IoError) → kind ≢ k.Io e) → kind ≢ k.OutOfMemory → RecordRead number a b f (Err (fault.Csv number))
read-refused number a b f (k.Io e) at why source memory = absurd (source e refl)
read-refused number a b f k.OutOfMemory at why source memory = absurd (memory refl)
read-refused number a b f (k.Utf8 pos err) at why source memory =
    let took = took-first a (pending_of (Some b.rdr.now) b) why.1 b.state at why.2 in
    (refl, why.1, records_from default_config (length took.0 + 1) b.state took.0, took.3, why.3)
read-refused number a b f (k.UnequalLengths pos expected len) at why source memory = let flexible = at.flexible in absurd (cc)
read-refused number a b f (k.Serialize text) at why source memory = absurd why
read-refused number a b f (k.Deserialize pos err) at why source memory = absurd why

-- a reader before these bytes has their records
pub records_left-fresh : (reader : SliceReader) (bytes : List ℕ) → reader_state reader ≡ st.StartRecord
    → source reader ≡ Some (strip_bom bytes) → records_left reader ≡ records_of bytes
unfolding records_left records_of
records_left-fresh reader bytes state left = rw (left, state) refl

-- the records of a text are no more than its bytes
pub length-records_of : (bytes : List ℕ) → length (records_of bytes) ≤ length bytes
unfolding records_of
length-records_of bytes =
    let few = records-few (length (strip_bom bytes) + 1) st.StartRecord (strip_bom bytes) refl in
    let stripped = length-strip_bom bytes in
    omega arith
