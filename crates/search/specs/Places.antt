-- Rows in strictly rising order of their keys, and the place of the row that has a key.
use Rattle.std.specs.Prelude.{◌≡◌, ℕ, ◌+◌, ◌<◌, ◌≤◌, Bool, true, false, cond, List, [], ◌∷◌, length, Some, None, Option, slice_index_or}
use Rattle.search.specs.Orders.{same}

module _ {K R : Type 0} (key : R → K) where
  -- the row at a place has a key
  pub record Stands (k : K) (rs : List R) (i : ℕ) : Type 0 where
    pub within : i < length rs
    pub there : (d : R) → key (slice_index_or rs i d) ≡ k

  -- no row has a key
  abbrev pub Lacks : K → List R → Type 0
  Lacks k rs = (i : ℕ) → Stands k rs i → ⊥

module _ {K R : Type 0} (before : K → K → Bool) (key : R → K) where
  -- the row at a place has a key that stands neither before nor after another
  pub record Matches (k : K) (rs : List R) (i : ℕ) : Type 0 where
    pub within : i < length rs
    pub level : (d : R) → same before (key (slice_index_or rs i d)) k ≡ true

  -- a row stands before the first of some rows
  abbrev pub Leads : R → List R → Type 0
  Leads r [] = Unit {0}
  Leads r (q ∷ qs) = before (key r) (key q) ≡ true

  -- each row stands before the next
  abbrev pub Rising : List R → Type 0
  Rising [] = Unit {0}
  Rising (r ∷ rs) = Leads r rs × Rising rs

  -- the place of the first row that has a key, where the first row has place n
  abbrev pub place_from : ℕ → K → List R → Option ℕ
  place_from n k [] = None
  place_from n k (r ∷ rs) = cond (same before (key r) k) (Some n) (place_from (n + 1) k rs)

  -- the place of the row that has a key, counted from 0
  abbrev pub place_of : K → List R → Option ℕ
  place_of k rs = place_from 0 k rs

  -- what is known of the answer to a search in rising rows
  pub record Answers (k : K) (rs : List R) (o : Option ℕ) : Type 0 where
    pub place : o ≡ place_of k rs
    pub missing : o ≡ None → Lacks key k rs

  -- the row just below a place, if there is one, stands before a key
  abbrev pub Below : K → List R → ℕ → Type 0
  Below k rs n = (i : ℕ) (d : R) → i + 1 ≡ n → before (key (slice_index_or rs i d)) k ≡ true

  -- the row at a place, if there is one, does not
  abbrev pub Above : K → List R → ℕ → Type 0
  Above k rs n = (d : R) → n < length rs → before (key (slice_index_or rs n d)) k ≡ false

  -- a place where the rows before a key end
  pub record Border (k : K) (rs : List R) (n : ℕ) : Type 0 where
    pub within : n ≤ length rs
    pub below : Below k rs n
    pub above : Above k rs n

  -- a place parts the rows by a key: all rows below it stand before the key, and none from it on does
  pub record Parts (k : K) (rs : List R) (n : ℕ) : Type 0 where
    pub below : (i : ℕ) (d : R) → i < n → before (key (slice_index_or rs i d)) k ≡ true
    pub above : (i : ℕ) (d : R) → n ≤ i → i < length rs → before (key (slice_index_or rs i d)) k ≡ false
