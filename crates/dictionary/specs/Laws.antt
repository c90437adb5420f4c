-- What follows for every dictionary from the definitions of its verdicts, answers and commits, in the words of one who uses it.
-- A law speaks of any list d of entries, or of any that is lawful as a dictionary's is, of any multiplexors m, n and k, and of any bytes v.
use Rattle.std.specs.Prelude.{◌≡◌, ℕ, ◌≤◌, true, false, ◌⊎◌, List, map, length, Some, None, Option, All}
use Rattle.wire.specs.declared.multiplexor.Multiplexor.{Multiplexor}
use Rattle.wire.specs.declared.abort_code.AbortCode.{AbortCode}
use Rattle.wire.specs.Multiplexors.{same, before}
use Rattle.dictionary.specs.Accesses.{reads, writes}
use Rattle.dictionary.specs.Entries.{Entry, Lawful, entry_at}
use Rattle.dictionary.specs.Verdicts.{is_there, read_verdict, start_verdict, write_verdict}
use Rattle.dictionary.specs.Questions.{attributes, value_at, next_above}
use Rattle.dictionary.specs.Commits.{committed}

-- some entry stands at a multiplexor
abbrev pub There : List Entry → Multiplexor → Type 0
There d m = is_there (entry_at m d) ≡ true

-- the multiplexors of all entries, in their order
abbrev pub multiplexors : List Entry → List Multiplexor
multiplexors d = map (λ (e : Entry). e.at) d

-- a value that is not refused stands in its entry after the commit
abbrev pub ValueSet : Type 0
ValueSet = (d : List Entry) (m : Multiplexor) (v : List ℕ) → write_verdict d m v ≡ None → value_at (committed d m v) m ≡ v

-- a refused commit changes nothing
abbrev pub RefusedKept : Type 0
RefusedKept = (d : List Entry) (m : Multiplexor) (v : List ℕ) (c : AbortCode) → write_verdict d m v ≡ Some c → committed d m v ≡ d

-- a commit changes no entry but the one that it is for
abbrev pub OthersKept : Type 0
OthersKept = (d : List Entry) (m : Multiplexor) (v : List ℕ) (n : Multiplexor) → same n m ≡ false → entry_at n (committed d m v) ≡ entry_at n d

-- a commit neither adds an entry nor removes or moves one
abbrev pub OrderKept : Type 0
OrderKept = (d : List Entry) (m : Multiplexor) (v : List ℕ) → multiplexors (committed d m v) ≡ multiplexors d

-- a commit changes no entry's attributes, and makes no missing entry answer otherwise
abbrev pub AttributesKept : Type 0
AttributesKept = (d : List Entry) (m : Multiplexor) (v : List ℕ) (n : Multiplexor) → attributes (committed d m v) n ≡ attributes d n

-- a commit leaves sound entries in strictly rising order
abbrev pub LawfulKept : Type 0
LawfulKept = (d : List Entry) (m : Multiplexor) (v : List ℕ) → Lawful d → Lawful (committed d m v)

-- n is the next multiplexor above m: an entry stands there, and every entry above m stands at n or above it
pub record Next (d : List Entry) (m n : Multiplexor) : Type 0 where
  pub above : before m n ≡ true
  pub there : There d n
  pub lowest : (k : Multiplexor) → There d k → before m k ≡ true → (k ≡ n) ⊎ (before n k ≡ true)

-- what is answered as the next one is the next one
abbrev pub NextFound : Type 0
NextFound = (d : List Entry) (m n : Multiplexor) → Lawful d → next_above d m ≡ Some n → Next d m n

-- where none is answered, no entry is above
abbrev pub NextNone : Type 0
NextNone = (d : List Entry) (m : Multiplexor) → next_above d m ≡ None → (k : Multiplexor) → There d k → before m k ≡ false

-- no two entries have one multiplexor: every entry is the one that is found at its own
abbrev pub OneEntry : Type 0
OneEntry = (d : List Entry) → Lawful d → All (λ (e : Entry). entry_at e.at d ≡ Some e) d

-- no value has more than 1,024 bytes, so that a buffer of so many has room for each
abbrev pub ValueBounded : Type 0
ValueBounded = (d : List Entry) (m : Multiplexor) → Lawful d → length (value_at d m) ≤ 1024

-- an entry is there and may be read
pub record CanRead (d : List Entry) (m : Multiplexor) : Type 0 where
  pub entry : Entry
  pub there : entry_at m d ≡ Some entry
  pub access : reads entry.access ≡ true

-- nothing speaks against a read exactly where it can be done
abbrev pub ReadDecided : Type 0
ReadDecided = (d : List Entry) (m : Multiplexor) → (read_verdict d m ≡ None → CanRead d m) × (CanRead d m → read_verdict d m ≡ None)

-- an entry is there, may be written, and takes a value: by its length and by its bytes
pub record CanWrite (d : List Entry) (m : Multiplexor) (v : List ℕ) : Type 0 where
  pub entry : Entry
  pub there : entry_at m d ≡ Some entry
  pub access : writes entry.access ≡ true
  pub long_enough : entry.shortest ≤ length v
  pub short_enough : length v ≤ entry.longest
  pub admitted : entry.admits v ≡ true

-- nothing speaks against a write exactly where it can be done
abbrev pub WriteDecided : Type 0
WriteDecided = (d : List Entry) (m : Multiplexor) (v : List ℕ) → (write_verdict d m v ≡ None → CanWrite d m v) × (CanWrite d m v → write_verdict d m v ≡ None)

-- a value has the size that was announced for it, if one was
abbrev pub OfSize : Option ℕ → List ℕ → Type 0
OfSize None v = Unit {0}
OfSize (Some n) v = length v ≡ n

-- a start that is refused is refused by the code of the verdict on the write, for every value of the announced size
abbrev pub StartDecided : Type 0
StartDecided = (d : List Entry) (m : Multiplexor) (size : Option ℕ) (c : AbortCode) → start_verdict d m size ≡ Some c → (v : List ℕ) → OfSize size v → write_verdict d m v ≡ Some c
