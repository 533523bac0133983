-- Each act keeps what a store holds within its limits.
use Rattle.std.proofs.Common.{
  ◌≡◌,
  ◌≤◌,
  ◌<◌,
  ℕ,
  zero,
  suc,
  ◌+◌,
  ◌^◌,
  ◌==◌,
  Bool,
  true,
  false,
  if◌then◌else◌,
  IsTrue,
  List,
  [],
  ◌∷◌,
  length,
  map,
  set,
  replicate,
  Option,
  Some,
  None,
  Result,
  Ok,
  Err,
  refl,
  sym,
  ap,
  ◌∙◌,
  subst,
  arith,
}
use Rattle.std.specs.Prelude.{bit_and, IfSome, slice_get, slice_set}
use Rattle.std.specs.Int.Bits.{mask_lt}
use Rattle.std.specs.List.{list_any}
use Rattle.std.specs.Option.{option_map, option_map_or}
use Rattle.base_types.specs.Lists.{changed_at}
use Rattle.base_types.specs.Outcomes.{and_then, either}
use Rattle.base_types.specs.declared.ids.FilesetId.{FilesetId}
use Rattle.base_types.specs.declared.ids.HostId.{HostId}
use Rattle.base_types.specs.declared.ids.ServerId.{ServerId}
use Rattle.base_types.specs.declared.limits.TheConstants.{HOSTS_MAX, FILESETS_MAX}
use Rattle.base_types.specs.declared.user.User.{User}
use Rattle.tree_calls.specs.declared.call.Call.{Call}
use Rattle.tree_calls.specs.declared.call.Call.TheVariants.{
  NewFileset,
  Create,
  MakeDir,
  Remove,
  Rename,
  Truncate,
  SetAcl,
  CloneFileset,
  Read,
  Write,
  List as ListNames,
  Stat,
  GetAcl,
  Sync,
  Lock,
  Unlock,
  OpenFile,
  CloseFile,
  MoveFileset,
}
use Rattle.tree_calls.specs.declared.reply.Refusal.{Refusal}
use Rattle.tree_calls.specs.declared.reply.Refusal.TheVariants.{
  NoEntry,
  NotDir,
  IsDir,
  Exists,
  NotEmpty,
  Denied,
  TooBig,
  TooMany,
  NoRoom,
  ReadOnly,
  Locked,
  OpenConflict,
  InUse,
  Loop,
  NoFileset,
  CrossFileset,
  NotLocked,
  NotOpened,
  AlreadyLocked,
  AlreadyOpened,
  NotHome,
}
use Rattle.tree_calls.specs.declared.reply.Reply.{Reply}
use Rattle.tree_calls.specs.declared.reply.Reply.TheVariants.{Ok as Accepted, Bytes, Names, Facts, Access, Refused}
use Rattle.tree_calls.specs.declared.roster.Roster.{Roster}
use Rattle.tree_calls.specs.declared.ship.Record.{Record}
use Rattle.tree_filesets.specs.declared.fileset.Fileset.{Fileset}
use Rattle.tree_filesets.proofs.Stays.{stays_itself}
use Rattle.message_types.specs.Soundness.{Each, IsServer, IsKept}
use Rattle.store_state.specs.declared.done.Done.{Done}
use Rattle.store_state.specs.declared.state.Holding.{Holding}
use Rattle.store_state.specs.declared.state.Stay.{Stay}
use Rattle.store_state.specs.declared.state.StoreState.{StoreState}
use Rattle.store_state.specs.Outcomes.{Outcome, Answer, refuse, unless_before, change_decided, give_applied}
use Rattle.store_state.specs.Replies.{refusal_code, refusal_right, reply_code, reply_right}
use Rattle.store_state.specs.Rows.{held_answered, nothing_used}
use Rattle.store_acts.specs.Sound.{AreRecords, IsHolding, KeepsLimits}
use Rattle.store_state.specs.State.{
  no_record,
  new_state,
  forgotten,
  is_server,
  held_at,
  held_noted,
  with_held,
  with_record,
  is_of,
  slot_so,
}

-- what is kept of one request

code_fits : (refusal : Refusal) → refusal_code refusal ≤ 21
code_fits NoEntry = omega arith
code_fits NotDir = omega arith
code_fits IsDir = omega arith
code_fits Exists = omega arith
code_fits NotEmpty = omega arith
code_fits (Denied rights) = omega arith
code_fits TooBig = omega arith
code_fits TooMany = omega arith
code_fits NoRoom = omega arith
code_fits ReadOnly = omega arith
code_fits Locked = omega arith
code_fits OpenConflict = omega arith
code_fits InUse = omega arith
code_fits Loop = omega arith
code_fits NoFileset = omega arith
code_fits CrossFileset = omega arith
code_fits NotLocked = omega arith
code_fits NotOpened = omega arith
code_fits AlreadyLocked = omega arith
code_fits AlreadyOpened = omega arith
code_fits NotHome = omega arith

right_fits : (refusal : Refusal) → refusal_right refusal < 64
right_fits (Denied rights) = mask_lt rights 6
right_fits NoEntry = omega arith
right_fits NotDir = omega arith
right_fits IsDir = omega arith
right_fits Exists = omega arith
right_fits NotEmpty = omega arith
right_fits TooBig = omega arith
right_fits TooMany = omega arith
right_fits NoRoom = omega arith
right_fits ReadOnly = omega arith
right_fits Locked = omega arith
right_fits OpenConflict = omega arith
right_fits InUse = omega arith
right_fits Loop = omega arith
right_fits NoFileset = omega arith
right_fits CrossFileset = omega arith
right_fits NotLocked = omega arith
right_fits NotOpened = omega arith
right_fits AlreadyLocked = omega arith
right_fits AlreadyOpened = omega arith
right_fits NotHome = omega arith

pub kept_change : (number : ℕ) (reply : Reply) (kept : Record) → IsKept kept → IsKept (change_decided number reply kept)
kept_change number (Refused refusal) kept h = record { code = code_fits refusal; rights = right_fits refusal }
kept_change number Accepted kept h = record { code = omega arith; rights = omega arith }
kept_change number (Bytes bytes) kept h = record { code = omega arith; rights = omega arith }
kept_change number (Names names) kept h = record { code = omega arith; rights = omega arith }
kept_change number (Facts facts) kept h = record { code = omega arith; rights = omega arith }
kept_change number (Access list) kept h = record { code = omega arith; rights = omega arith }

pub kept_give : (number : ℕ) (kept : Record) → IsKept kept → IsKept (give_applied number kept)
kept_give number kept h = record { code = h.code; rights = h.rights }

-- the records of hosts

pub length_changed : {X : Type 0} (xs : List X) (i : ℕ) (f : X → X) → length (changed_at xs i f) ≡ length xs
length_changed [] i f = refl
length_changed (x ∷ xs) zero f = refl
length_changed (x ∷ xs) (suc i) f = ap suc (length_changed xs i f)

each_changed : {X : Type 0} (P : X → Type 0) (f : X → X) → ((x : X) → P x → P (f x)) → (xs : List X) (i : ℕ) →
    Each P xs → Each P (changed_at xs i f)
each_changed P f k [] i h = tt
each_changed P f k (x ∷ xs) zero h = (k x h.0, h.1)
each_changed P f k (x ∷ xs) (suc i) h = (h.0, each_changed P f k xs i h.1)

each_map : {X : Type 0} (P : X → Type 0) (f : X → X) → ((x : X) → P x → P (f x)) → (xs : List X) → Each P xs →
    Each P (map f xs)
each_map P f k [] h = tt
each_map P f k (x ∷ xs) h = (k x h.0, each_map P f k xs h.1)

each_set : {X : Type 0} (P : X → Type 0) (xs : List X) (i : ℕ) (x : X) → Each P xs → P x → Each P (set xs i x)
each_set P [] i x h k = tt
each_set P (y ∷ xs) zero x h k = (k, h.1)
each_set P (y ∷ xs) (suc i) x h k = (h.0, each_set P xs i x h.1 k)

pub length_set : {X : Type 0} (xs : List X) (i : ℕ) (x : X) → length (set xs i x) ≡ length xs
length_set [] i x = refl
length_set (y ∷ xs) zero x = refl
length_set (y ∷ xs) (suc i) x = ap suc (length_set xs i x)

pub length_map : {X : Type 0} (f : X → X) (xs : List X) → length (map f xs) ≡ length xs
length_map f [] = refl
length_map f (x ∷ xs) = ap suc (length_map f xs)

pub records_changed : (records : List Record) (i : ℕ) (f : Record → Record) →
    ((r : Record) → IsKept r → IsKept (f r)) → AreRecords records → AreRecords (changed_at records i f)
records_changed records i f k h =
    record { count = length_changed records i f ∙ h.count; each = each_changed IsKept f k records i h.each }

pub records_mapped : (records : List Record) (f : Record → Record) → ((r : Record) → IsKept r → IsKept (f r)) →
    AreRecords records → AreRecords (map f records)
records_mapped records f k h =
    record { count = length_map f records ∙ h.count; each = each_map IsKept f k records h.each }

nothing_fits : IsKept no_record
nothing_fits = record { code = omega arith; rights = omega arith }

pub records_forgotten : (records : List Record) → AreRecords records → AreRecords (forgotten records)
records_forgotten records h = records_mapped records (λ kept. no_record) (λ r k. nothing_fits) h

pub each_replicate : {X : Type 0} (P : X → Type 0) (n : ℕ) (x : X) → P x → Each P (replicate n x)
each_replicate P zero x k = tt
each_replicate P (suc n) x k = (k, each_replicate P n x k)

pub no_records_fit : AreRecords (replicate (HOSTS_MAX + 1) no_record)
no_records_fit = record { count = refl; each = each_replicate IsKept (HOSTS_MAX + 1) no_record nothing_fits }

-- the slots

abbrev pub Slots : Roster → List (Option Holding) → Type 0
Slots roster slots = Each (λ slot. IfSome slot (IsHolding roster)) slots

-- a change that keeps a holding within the limits
abbrev pub Keeps : Roster → (Holding → Holding) → Type 0
Keeps roster f = (holding : Holding) → IsHolding roster holding → IsHolding roster (f holding)

one_changed : (roster : Roster) (f : Holding → Holding) → Keeps roster f → (slot : Option Holding) →
    IfSome slot (IsHolding roster) → IfSome (option_map f slot) (IsHolding roster)
one_changed roster f k None h = tt
one_changed roster f k (Some holding) h = k holding h

pub slots_changed : (roster : Roster) (slots : List (Option Holding)) (at : ℕ) (f : Holding → Holding) →
    Keeps roster f → Slots roster slots → Slots roster (changed_at slots at (option_map f))
slots_changed roster slots at f k h =
    each_changed (λ slot. IfSome slot (IsHolding roster)) (option_map f) (one_changed roster f k) slots at h

pub slots_mapped : (roster : Roster) (slots : List (Option Holding)) (f : Holding → Holding) → Keeps roster f →
    Slots roster slots → Slots roster (map (option_map f) slots)
slots_mapped roster slots f k h =
    each_map (λ slot. IfSome slot (IsHolding roster)) (option_map f) (one_changed roster f k) slots h

pub slots_set : (roster : Roster) (slots : List (Option Holding)) (at : ℕ) (holding : Holding) → Slots roster slots →
    IsHolding roster holding → Slots roster (set slots at (Some holding))
slots_set roster slots at holding h k = each_set (λ slot. IfSome slot (IsHolding roster)) slots at (Some holding) h k

-- what is held in a slot is within the limits
pub held_fits : (roster : Roster) (slots : List (Option Holding)) (at : ℕ) (holding : Holding) → Slots roster slots →
    held_at slots at ≡ Some holding → IsHolding roster holding
held_fits roster [] at holding h e = absurd (cc)
held_fits roster (None ∷ slots) zero holding h e = absurd (cc)
held_fits roster (Some x ∷ slots) zero holding h e = let same : x ≡ holding = cc in subst (IsHolding roster) same h.0
held_fits roster (slot ∷ slots) (suc at) holding h e = held_fits roster slots at holding h.1 e

-- the store

-- a store that is within the limits, and of which nothing else is said to be new than slots, records and ships taken
pub record IsQuiet (old new : StoreState) : Type 0 where
  pub limits : KeepsLimits new
  pub server : new.server ≡ old.server
  pub roster : new.roster ≡ old.roster
  pub epoch : new.epoch ≡ old.epoch
  pub ship : new.ship ≡ old.ship

pub quiet_self : (state : StoreState) → KeepsLimits state → IsQuiet state state
quiet_self state h = record { limits = h; server = refl; roster = refl; epoch = refl; ship = refl }

pub quiet_then : (a b c : StoreState) → IsQuiet a b → IsQuiet b c → IsQuiet a c
quiet_then a b c h k = record {
  limits = k.limits;
  server = k.server ∙ h.server;
  roster = k.roster ∙ h.roster;
  epoch = k.epoch ∙ h.epoch;
  ship = k.ship ∙ h.ship;
}

pub quiet_held : (state : StoreState) (at : ℕ) (f : Holding → Holding) → Keeps state.roster f → KeepsLimits state →
    IsQuiet state (with_held state at f)
quiet_held state at f k h = record {
  limits =
      record {
        table = length_changed state.slots at (option_map f) ∙ h.table;
        records = h.records;
        slots = slots_changed state.roster state.slots at f k h.slots;
      };
  server = refl;
  roster = refl;
  epoch = refl;
  ship = refl;
}

noted_keeps : (roster : Roster) (host : HostId) (f : Record → Record) → ((r : Record) → IsKept r → IsKept (f r)) →
    Keeps roster (held_noted host f)
noted_keeps roster host f k holding h =
    record {
      stay = h.stay;
      least = h.least;
      most = h.most;
      records = records_changed holding.records host.0 f k h.records;
    }

pub quiet_record : (state : StoreState) (id : FilesetId) (host : HostId) (f : Record → Record) →
    ((r : Record) → IsKept r → IsKept (f r)) → KeepsLimits state → IsQuiet state (with_record state id host f)
quiet_record state id host f k h = by (is_server id)
  where
    by : (b : Bool) → IsQuiet state (if b then record state { records = changed_at state.records host.0 f } else
        with_held state (slot_so (is_of id) state.slots) (held_noted host f))
    by true =
        record {
          limits = record {
            table = h.table;
            records = records_changed state.records host.0 f k h.records;
            slots = h.slots;
          };
          server = refl;
          roster = refl;
          epoch = refl;
          ship = refl;
        }
    by false =
        quiet_held state (slot_so (is_of id) state.slots) (held_noted host f) (noted_keeps state.roster host f k) h

-- what was settled before changes nothing
pub quiet_before : (before : Option Done) (state : StoreState) (outcome : Outcome) → KeepsLimits state →
    IsQuiet state outcome.state → IsQuiet state (unless_before before state outcome).state
quiet_before None state outcome h k = k
quiet_before (Some done) state outcome h k = quiet_self state h

-- nor does an answer that is refused
pub quiet_either : {A : Type 0} (checked : Result A Refusal) (state : StoreState) (done : A → Answer) →
    KeepsLimits state →
    ((a : A) → checked ≡ Ok a → IsQuiet state (done a).state) → IsQuiet state (either checked done (refuse state)).state
quiet_either (Ok a) state done h k = k a refl
quiet_either (Err refusal) state done h k = quiet_self state h

-- a fileset that answers keeps its limit
pub answered_keeps : (roster : Roster) (host : HostId) (user : User) (call : Call) →
    Keeps roster (held_answered host user call)
answered_keeps roster host user call holding h =
    let same = (stays_itself holding.fileset nothing_used host user call).objects in
    record { stay = h.stay; least = rw same h.least; most = rw same h.most; records = h.records }

abbrev no_holding : Option Holding
no_holding = None

-- a store before its first act
pub new_fits : (server : ServerId) (capacity : ℕ) (roster : Roster) → KeepsLimits (new_state server capacity roster)
new_fits server capacity roster =
    record {
      table = refl;
      records = no_records_fit;
      slots = each_replicate (λ slot. IfSome slot (IsHolding roster)) FILESETS_MAX no_holding tt;
    }
