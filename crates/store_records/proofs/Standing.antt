-- Acts that may stand leave a record that a disk can have.
use Rattle.std.proofs.Common.{◌≡◌, ◌≢◌, ℕ, List, refl, sym, subst, ◌∙◌, ap, arith}
use Rattle.std.specs.Prelude.{true, not, nat_eq, Option, Result, Ok, Err, IfOk}
use Rattle.std.proofs.lemmas.Bool.{eq-eqb, false≢true, not_from_true}
use Rattle.base_types.specs.declared.ids.FilesetId.{FilesetId}
use Rattle.base_types.specs.declared.ids.HostId.{HostId}
use Rattle.base_types.specs.declared.ids.ServerId.{ServerId}
use Rattle.tree_calls.specs.declared.call.Call.{Call}
use Rattle.tree_calls.specs.declared.part.DirEntry.{DirEntry}
use Rattle.tree_calls.specs.declared.part.Piece.{Piece}
use Rattle.tree_calls.specs.declared.part.Status.{Status}
use Rattle.tree_calls.specs.declared.ship.ShipPart.{ShipPart}
use Rattle.tree_calls.specs.declared.ship.ShipPart.TheVariants.{Head, Object}
use Rattle.store_acts.proofs.Next.{act_next}
use Rattle.store_acts.specs.Acts.{act_done}
use Rattle.store_acts.specs.Moving.{part_outcome}
use Rattle.store_acts.specs.Parts.{anode_of_part}
use Rattle.store_acts.specs.Sound.{Fits, HasName, IsAct, IsAllowed}
use Rattle.store_acts.specs.declared.act.Act.{Act}
use Rattle.store_acts.specs.declared.act.Act.TheVariants.{Boot, Epoch, Host, Do, Refuse, Give, Leave, Back, Left, Settle, Part}
use Rattle.store_state.specs.declared.state.StoreState.{StoreState}
use Rattle.store_records.specs.Stored.{IsStorable}
use Rattle.store_records.proofs.Acts.{acts_keep_storable}
use Rattle.store_records.proofs.Fit.{IsFit, fit_of}
use Rattle.store_records.specs.Stands.{LeavesStorable, MayCome}
use Rattle.store_records.proofs.Coming.{anode_fits, part_rests}
use Rattle.store_records.proofs.Heads.{head_fits, head_next}

-- An act may stand, by the record that it left: it brings names, names other servers, and leaves filesets that may be
-- held.
abbrev pub MayStand : StoreState → Act → Type 0
MayStand after (Do host number call) = HasName call
MayStand after (Leave id to) = to.0 ≢ after.server.0
MayStand after (Part from ship id moves at part) = MayCome after from id part
MayStand after _ = Unit {0}

-- what an act leaves of its store's server, and a head of the number of the next fileset
pub server_stays : (before : StoreState) (act : Act) → IsStorable before → IsAct before.roster before.server act → (act_done before act).state.server ≡ before.server
server_stays before act h k = (act_next before act h.limits k).server

pub head_done_next : (before : StoreState) (from : ServerId) (ship : ℕ) (id : FilesetId) (moves at : ℕ) (part : ShipPart) → (act_done before (Part from ship id moves at part)).state ≡ (part_outcome before from ship id moves at part).state
unfolding act_done
head_done_next before from ship id moves at part = refl

allowed_before : (before after : StoreState) (id : FilesetId) → after.server ≡ before.server → after.next ≡ before.next → IsAllowed after id → IsAllowed before id
allowed_before before after id server next a = record {
  first = a.first;
  last = a.last;
  number = a.number;
  given = λ own. (let below = a.given (own ∙ ap (λ (s : ServerId). s.0) (sym server)) in omega (arith, below, next));
}

-- a part that may come leaves a record that fits
part_fits : (before : StoreState) → IsStorable before → (from : ServerId) (ship : ℕ) (id : FilesetId) (moves at number unique : ℕ) (status : Option Status) (pieces : List Piece) (entries : List DirEntry)
    → MayCome (act_done before (Part from ship id moves at (Object number unique status pieces entries))).state from id (Object number unique status pieces entries)
    → IsFit (act_done before (Part from ship id moves at (Object number unique status pieces entries))).state
unfolding act_done part_outcome
part_fits before h from ship id moves at number unique status pieces entries may =
    anode_fits before from ship id moves at (anode_of_part unique status pieces entries) (fit_of before h) (part_rests unique status pieces entries) may

-- an act that fits, by what is tested of it
module _ (before : StoreState) (h : IsStorable before) where
  fits_done : (act : Act) → IsAct before.roster before.server act → Fits before act → IsStorable (act_done before act).state
  fits_done act k f = acts_keep_storable before act h k f

  part_done : (from : ServerId) (ship : ℕ) (id : FilesetId) (moves at : ℕ) (part : ShipPart) → IsAct before.roster before.server (Part from ship id moves at part)
      → MayCome (act_done before (Part from ship id moves at part)).state from id part → IsStorable (act_done before (Part from ship id moves at part)).state
  part_done from ship id moves at (Head name objects records mover) k may =
      let server = server_stays before (Part from ship id moves at (Head name objects records mover)) h k in
      let next = ap (λ (s : StoreState). s.next) (head_done_next before from ship id moves at (Head name objects records mover)) ∙ head_next before from ship id moves at name objects records mover in
      fits_done (Part from ship id moves at (Head name objects records mover)) k
      (head_fits before from ship id moves at name objects records mover h k.1.0 k.1.1.least k.1.1.most (λ own. may.0 (own ∙ ap (λ (s : ServerId). s.0) (sym server)))
      (allowed_before before _ id server next may.1) may.2)
  part_done from ship id moves at (Object number unique status pieces entries) k may =
      let r = part_fits before h from ship id moves at number unique status pieces entries may in
      record {
        limits = (act_next before (Part from ship id moves at (Object number unique status pieces entries)) h.limits k).limits;
        servers = r.servers;
        first = r.first;
        last = r.last;
        next = r.next;
        hosts = r.hosts;
        taken = r.taken;
        each = r.each;
        apart = r.apart;
        room = r.room;
      }

  act_stands : (act : Act) → IsAct before.roster before.server act → MayStand (act_done before act).state act → IsStorable (act_done before act).state
  act_stands Boot k may = fits_done Boot k tt
  act_stands Epoch k may = fits_done Epoch k tt
  act_stands (Host host known) k may = fits_done (Host host known) k tt
  act_stands (Do host number call) k may = fits_done (Do host number call) k may
  act_stands (Refuse host id number refusal) k may = fits_done (Refuse host id number refusal) k tt
  act_stands (Give host number fid pieces given) k may = fits_done (Give host number fid pieces given) k tt
  act_stands (Leave id to) k may =
      fits_done (Leave id to) k (λ own. may (own ∙ ap (λ (s : ServerId). s.0) (sym (server_stays before (Leave id to) h k))))
  act_stands (Back host number id refusal) k may = fits_done (Back host number id refusal) k tt
  act_stands (Left id) k may = fits_done (Left id) k tt
  act_stands (Settle id) k may = fits_done (Settle id) k tt
  act_stands (Part from ship id moves at part) k may = part_done from ship id moves at part k may

pub stands_storable : (act : Act) (after : StoreState) → MayStand after act → LeavesStorable act after
stands_storable act after may before was =
    subst IsStorable (sym was.done) (act_stands before was.storable act was.allowed (subst (λ s. MayStand s act) was.done may))

-- an act of another kind
pub else_stands : (after : StoreState) (act : Act) → ((host : HostId) (number : ℕ) (call : Call) → act ≡ Do host number call → ⊥) → ((id : FilesetId) (to : ServerId) → act ≡ Leave id to → ⊥)
    → ((from : ServerId) (ship : ℕ) (id : FilesetId) (moves at : ℕ) (part : ShipPart) → act ≡ Part from ship id moves at part → ⊥) → MayStand after act
else_stands after (Do host number call) d l p = absurd (d host number call refl)
else_stands after (Leave id to) d l p = absurd (l id to refl)
else_stands after (Part from ship id moves at part) d l p = absurd (p from ship id moves at part refl)
else_stands after _ d l p = tt

-- two numbers that differ
pub differs : (a b : ℕ) → not (nat_eq a b) ≡ true → a ≢ b
differs a b e same = false≢true (sym (not_from_true (nat_eq a b) (eq-eqb a b same)) ∙ e)

-- what holds of an answer, where there is one
pub if_ok : {A E : Type 0} (result : Result A E) (P Q : A → Type 0) → ((a : A) → P a → Q a) → IfOk result P → IfOk result Q
if_ok (Ok a) P Q f h = f a h
if_ok (Err e) P Q f h = tt
