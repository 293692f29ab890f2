-- A tag's list in a sound home: where it lies, and home's bytes once it is another.
use Rattle.std.specs.Prelude.{◌≡◌, true, false, ◌≢◌, List, ◌++◌, ℕ, suc, ◌*◌, ◌<◌, length, take, drop}
use Rattle.wire.specs.Bytes.{is_some}
use Rattle.records.specs.declared.Record.{Record}
use Rattle.records.specs.Records.{Fits, key, look, held, rank, encode as record_bytes}
use Rattle.layout.specs.Capacities.{class_of}
use Rattle.home.specs.Layout.{change}
use Rattle.home.specs.Bytes.{step_of, decode}
use Rattle.home.specs.Sound.{sound, pages_of, list_of}
use Rattle.home.specs.Lookup.{known, block_of}
use Rattle.layout.specs.Valid.{Proper}
use Rattle.moves.specs.Stored.{settled}

-- a sound home in which tag t has a block of n records at cell p
pub record Listed (h : List ℕ) (t p n : ℕ) : Type 0 where
  pub sound : sound h ≡ true
  pub block : block_of h t ≡ known p n

-- a record that is not among them would have rank j there
pub record Missing (h : List ℕ) (t p n j : ℕ) (r : Record) : Type 0 where
  pub listed : Listed h t p n
  pub held : held (look (key r) (list_of h t)) ≡ false
  pub rank : rank (key r) (list_of h t) ≡ j
  pub fits : Fits r

-- one of them has rank j
pub record Ranked (h : List ℕ) (t p n j : ℕ) : Type 0 where
  pub listed : Listed h t p n
  pub key : ℕ
  pub held : held (look key (list_of h t)) ≡ true
  pub rank : rank key (list_of h t) ≡ j

-- ---- a list that becomes another

-- home's bytes once tag t's list is rs; as they were where there is no room
abbrev pub changed : List ℕ → ℕ → List Record → List ℕ
changed h t rs = settled (step_of h) (pages_of h) h (change (step_of h) (8 * pages_of h) t rs (decode h))

-- a list without its j-th record
abbrev pub without : ℕ → List Record → List Record
without j rs = take j rs ++ drop (suc j) rs

-- the bytes of a list that tag t's is to become, of another class than the n records have, and with room
pub record Moving (h : List ℕ) (t p n : ℕ) (bs : List ℕ) : Type 0 where
  pub listed : Listed h t p n
  pub list : List Record
  pub proper : Proper list
  pub bytes : bs ≡ record_bytes list
  pub some : 0 < length list
  pub class : class_of (step_of h) (length list) ≢ class_of (step_of h) n
  pub room : is_some (change (step_of h) (8 * pages_of h) t list (decode h)) ≡ true
