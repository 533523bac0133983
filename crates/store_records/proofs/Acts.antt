-- Each act leaves a record that a disk can have.
use Rattle.std.proofs.Common.{◌≡◌, ◌≤◌, ℕ, zero, suc, ◌+◌, List, [], ◌∷◌, length, map, replicate, set, inl, refl, ◌∙◌, ap, arith}
use Rattle.std.specs.Prelude.{IsTrue, Option, Some, None}
use Rattle.std.specs.Option.{option_map_or}
use Rattle.base_types.specs.declared.ids.FilesetId.{FilesetId}
use Rattle.base_types.specs.declared.ids.HostId.{HostId}
use Rattle.base_types.specs.declared.limits.TheConstants.{SERVERS_MAX}
use Rattle.base_types.specs.declared.user.User.{User}
use Rattle.tree_calls.specs.Limits.{keeps_limit}
use Rattle.tree_calls.specs.Rosters.{user_of}
use Rattle.tree_calls.specs.declared.call.Call.{Call}
use Rattle.tree_calls.specs.declared.call.Call.TheVariants.{NewFileset, Create, MakeDir, Remove, Rename, Truncate, SetAcl, CloneFileset, Read, Write, List as ListNames, Stat, GetAcl, Sync, Lock, Unlock, OpenFile, CloseFile, MoveFileset}
use Rattle.tree_calls.specs.declared.reply.Refusal.TheVariants.{Denied, NoFileset}
use Rattle.tree_calls.specs.declared.reply.Reply.TheVariants.{Refused}
use Rattle.message_types.specs.Soundness.{Each}
use Rattle.store_acts.proofs.Limits.{length_set, new_fits, each_replicate}
use Rattle.store_acts.proofs.Next.{act_next}
use Rattle.store_acts.specs.Acts.{act_done, booted, held_booted, do_outcome, refuse_outcome}
use Rattle.store_acts.specs.Moving.{back_outcome, returned}
use Rattle.store_acts.specs.Sound.{Fits, HasName, IsAct, IsDecided}
use Rattle.store_acts.specs.declared.act.Act.{Act}
use Rattle.store_acts.specs.declared.act.Act.TheVariants.{Boot, Epoch, Host, Do, Refuse, Give, Leave, Back, Left, Settle, Part}
use Rattle.store_state.specs.Founding.{held_promise, promised}
use Rattle.store_state.specs.Giving.{held_given, give_outcome}
use Rattle.store_state.specs.Outcomes.{Outcome, unless_before, decided, decided_before, decided_once, applied_before, change_decided, give_applied, refuse, stale}
use Rattle.store_state.specs.Rows.{answer_to, answer_for, numbered_id, numbered_name}
use Rattle.store_state.specs.State.{held_at, is_of, no_ship, slot_so, with_held}
use Rattle.store_state.specs.declared.done.Done.{Done}
use Rattle.store_state.specs.declared.state.Holding.{Holding}
use Rattle.store_state.specs.declared.state.HostState.TheVariants.{Unknown}
use Rattle.store_state.specs.declared.state.StoreState.{StoreState}
use Rattle.store_state.specs.declared.state.TakenShip.{TakenShip}
use Rattle.store_records.specs.Laws.{ActsKeepStorable, NewIsStorable}
use Rattle.store_records.specs.Stored.{IsStored}
use Rattle.store_records.proofs.Calls.{same_le, noted_fit, named_fit, renamed_fit, given_fit}
use Rattle.store_records.proofs.Fit.{IsFit, IsStill, fit_of, stored_on, in_all}
use Rattle.store_records.proofs.Founds.{founded_fit, cloned_fit, objects_fit}
use Rattle.store_records.proofs.Moves.{leave_fit, returned_fit, left_fit, settle_fit}
use Rattle.store_records.proofs.Parts.{part_fit}

-- what was settled before changes nothing
before_fit : (before : Option Done) (state : StoreState) (outcome : Outcome) → IsFit state → IsFit outcome.state → IsFit (unless_before before state outcome).state
before_fit None state outcome h k = k
before_fit (Some done) state outcome h k = h

-- a call that a store decides
decides_fit : (state : StoreState) (host : HostId) (number : ℕ) (call : Call) (user : User) → IsDecided call → IsTrue (keeps_limit call) → HasName call → IsFit state
    → IsFit (answer_for state host call user).state
unfolding answer_for
decides_fit state host number (NewFileset server name objects owner) user d l n h = let (a, b) = objects_fit objects l in founded_fit state name objects owner a b n h
decides_fit state host number (CloneFileset server source new) user d l n h = cloned_fit state user source new n h
decides_fit state host number (Create place) user d l n h = named_fit state place.fileset host user (Create place) d h
decides_fit state host number (MakeDir place) user d l n h = named_fit state place.fileset host user (MakeDir place) d h
decides_fit state host number (Remove place) user d l n h = named_fit state place.fileset host user (Remove place) d h
decides_fit state host number (Rename from to) user d l n h = renamed_fit state host user from to h
decides_fit state host number (Truncate place len) user d l n h = named_fit state place.fileset host user (Truncate place len) d h
decides_fit state host number (SetAcl place which list) user d l n h = named_fit state place.fileset host user (SetAcl place which list) d h
decides_fit state host number (Read place from len) user d l n h = absurd d
decides_fit state host number (Write place from bytes) user d l n h = absurd d
decides_fit state host number (ListNames place) user d l n h = absurd d
decides_fit state host number (Stat place) user d l n h = absurd d
decides_fit state host number (GetAcl place which) user d l n h = absurd d
decides_fit state host number (Sync place) user d l n h = absurd d
decides_fit state host number (Lock label place writing from len) user d l n h = absurd d
decides_fit state host number (Unlock label) user d l n h = absurd d
decides_fit state host number (OpenFile label place kind) user d l n h = absurd d
decides_fit state host number (CloseFile label) user d l n h = absurd d
decides_fit state host number (MoveFileset server name to) user d l n h = absurd d

answers_fit : (state : StoreState) (host : HostId) (number : ℕ) (call : Call) → IsDecided call → IsTrue (keeps_limit call) → HasName call → IsFit state
    → IsFit (answer_to state host call).state
unfolding answer_to
answers_fit state host number call d l n h = by (user_of state.roster host)
  where
    by : (o : Option User) → IsFit (option_map_or (answer_for state host call) o (refuse state (Denied 0))).state
    by None = h
    by (Some user) = decides_fit state host number call user d l n h

do_fit : (state : StoreState) (host : HostId) (number : ℕ) (call : Call) → IsDecided call → IsTrue (keeps_limit call) → HasName call → IsFit state
    → IsFit (do_outcome state host number call).state
unfolding do_outcome
do_fit state host number call d l n h = by (numbered_id state (numbered_name call))
  where
    by : (o : Option FilesetId)
        → IsFit (option_map_or (λ id. decided_once state id host number (decided id host number (answer_to state host call))) o (stale (Refused NoFileset) state)).state
    by None = h
    by (Some id) =
        before_fit (decided_before state id host number) state (decided id host number (answer_to state host call)) h
        (noted_fit (answer_to state host call).state id host (change_decided number (answer_to state host call).reply) (answers_fit state host number call d l n h))

-- Boot
boot_fit : (state : StoreState) → IsFit state → IsFit (booted state)
boot_fit state h =
    in_all state (booted state) held_booted h still refl
    (λ a k. (let one = stored_on state (booted state) a still k in record {
      id = refl;
      name = refl;
      stored = record { server = one.server; id = one.id; name = one.name; rest = one.rest; stay = one.stay };
      promise = same_le (held_promise (Some a));
      leaving = inl (λ e. e);
    })) (λ a. refl) (λ a. same_le (held_promise (Some a)))
  where
    long : {X Y : Type 0} (f : X → Y) (xs : List X) → length (map f xs) ≡ length xs
    long f [] = refl
    long f (x ∷ xs) = ap suc (long f xs)

    codes : (ships : List TakenShip) → Each (λ (ship : TakenShip). ship.code ≤ 21) (map (λ ship. no_ship) ships)
    codes [] = tt
    codes (ship ∷ ships) = (omega arith, codes ships)

    still : IsStill state (booted state)
    still = record {
      server = refl;
      roster = refl;
      capacity = refl;
      next = omega arith;
      last = h.next.1;
      ship = omega arith;
      hosts = long (λ known. Unknown) state.hosts ∙ h.hosts;
      taken = (long (λ ship. no_ship) state.taken ∙ h.taken.0, codes state.taken);
    }

-- each act
act_fit : (state : StoreState) (act : Act) → IsAct state.roster state.server act → Fits state act → IsFit state → IsFit (act_done state act).state
unfolding act_done refuse_outcome give_outcome back_outcome
act_fit state Boot k f h = boot_fit state h
act_fit state Epoch k f h =
    record { servers = h.servers; first = h.first; last = h.last; next = h.next; hosts = h.hosts; taken = h.taken; each = on; apart = h.apart; room = h.room }
  where
    on : (s : ℕ) (b : Holding) → held_at state.slots s ≡ Some b → IsStored (record state { epoch = state.epoch + 1 }) b
    on s b e = stored_on state (record state { epoch = state.epoch + 1 }) b
        (record { server = refl; roster = refl; capacity = refl; next = omega arith; last = h.next.1; ship = omega arith; hosts = h.hosts; taken = h.taken }) (h.each s b e)
act_fit state (Host host known) k f h =
    record {
      servers = h.servers;
      first = h.first;
      last = h.last;
      next = h.next;
      hosts = length_set state.hosts host.0 known ∙ h.hosts;
      taken = h.taken;
      each = on;
      apart = h.apart;
      room = h.room;
    }
  where
    on : (s : ℕ) (b : Holding) → held_at state.slots s ≡ Some b → IsStored (record state { hosts = set state.hosts host.0 known }) b
    on s b e = stored_on state (record state { hosts = set state.hosts host.0 known }) b
        (record {
          server = refl;
          roster = refl;
          capacity = refl;
          next = omega arith;
          last = h.next.1;
          ship = omega arith;
          hosts = length_set state.hosts host.0 known ∙ h.hosts;
          taken = h.taken;
        }) (h.each s b e)
act_fit state (Do host number call) k f h = do_fit state host number call k.1 k.3.objects f h
act_fit state (Refuse host id number refusal) k f h =
    before_fit (decided_before state id host number) state _ h (noted_fit state id host (change_decided number (Refused refusal)) h)
act_fit state (Give host number fid pieces given) k f h =
    before_fit (applied_before state fid.fileset host number) state _ h
    (noted_fit (with_held state (slot_so (is_of fid.fileset) state.slots) (held_given fid pieces given)) fid.fileset host (give_applied number) (given_fit state (slot_so (is_of fid.fileset) state.slots) fid pieces given k.2 h))
act_fit state (Leave id to) k f h = leave_fit state id to k f h
act_fit state (Back host number id refusal) k f h =
    before_fit (decided_before state id host number) state _ h
    (noted_fit (with_held state (slot_so (is_of id) state.slots) returned) id host (change_decided number (Refused refusal)) (returned_fit state (slot_so (is_of id) state.slots) h))
act_fit state (Left id) k f h = left_fit state id h
act_fit state (Settle id) k f h = settle_fit state id h
act_fit state (Part from ship id moves at part) k f h = part_fit state from ship id moves at part k f h

pub acts_keep_storable : ActsKeepStorable
acts_keep_storable state act h k f =
    let r = act_fit state act k f (fit_of state h) in
    record {
      limits = (act_next state act h.limits k).limits;
      servers = r.servers;
      first = r.first;
      last = r.last;
      next = r.next;
      hosts = r.hosts;
      taken = r.taken;
      each = r.each;
      apart = r.apart;
      room = r.room;
    }

-- a new store
nothing_held : (n s : ℕ) (b : Holding) → held_at (replicate n None) s ≡ Some b → ⊥
nothing_held zero s b e = absurd (cc)
nothing_held (suc n) zero b e = absurd (cc)
nothing_held (suc n) (suc s) b e = nothing_held n s b e

pub new_is_storable : NewIsStorable
new_is_storable server capacity roster first last servers = record {
  limits = new_fits server capacity roster;
  servers = servers;
  first = first;
  last = last;
  next = (omega arith, omega arith);
  hosts = refl;
  taken = (refl, each_replicate (λ (ship : TakenShip). ship.code ≤ 21) SERVERS_MAX no_ship (omega arith));
  each = λ s b e. absurd (nothing_held 16 s b e);
  apart = λ s t a b ne ea eb. absurd (nothing_held 16 s a ea);
  room = (let e : promised (replicate 16 None) ≡ 0 = refl in omega (arith, e));
}
