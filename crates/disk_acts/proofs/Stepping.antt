-- Steps of an act, one after another.
use Rattle.std.proofs.Common.{◌≡◌, ◌≢◌, ◌<◌, ◌≤◌, ℕ, ◌+◌, ◌*◌, ◌-◌, ◌%◌, List, refl, sym, ◌∙◌, ap, subst, arith}
use Rattle.std.specs.Prelude.{Bool, true, false, not, ◌&&◌, ◌||◌, nat_le, nat_lt, Result, Ok, Err, OnOk}
use Rattle.std.proofs.lemmas.Bool.Decides.{nat_tests}
use Rattle.base_types.specs.View.{View}
use Rattle.tree_objects.specs.declared.content.Anode.{Anode}
use Rattle.disk_layout.specs.declared.superblock.Superblock.{Superblock}
use Rattle.disk_log.specs.declared.fault.LogFault.{LogFault}
use Rattle.disk_log.specs.declared.fault.LogFault.TheVariants as logs
use Rattle.disk_log.specs.Blame.{IsDiskOrMemory}
use Rattle.disk_log.specs.Contents.{contents_of, page_in}
use Rattle.disk_log.specs.Log.{disk_of, state_of, slot_of, IsSoundLog}
use Rattle.disk_log.specs.State.{State}
use Rattle.disk_log.specs.declared.kept.Tx.{Tx}
use Rattle.disk_log.specs.declared.log.Log.{Log}
use Rattle.disk_space.specs.Counts.{count_now}
use Rattle.disk_anode.specs.Faults.{IsNodeFault, log_fault}
use Rattle.disk_anode.specs.Room.{is_page, MayPutAll, PutsPages}
use Rattle.disk_anode.specs.declared.fault.NodeFault.{NodeFault}
use Rattle.disk_anode.proofs.Putting.{may_fewer}
use Rattle.disk_anode.proofs.Moving.{puts_wider, puts_then, puts_none, wrote_quiet}
use Rattle.disk_objects.specs.Holds.{is_anode, Holds}
use Rattle.disk_objects.specs.Objects.{kept_anodes}
use Rattle.disk_pages.specs.Puts.{PutsOne}
use Rattle.disk_fileset.specs.Slots.{slot_pages, Keeps as AnodesAre, ChangesSlot}
use Rattle.disk_fileset.proofs.Changing.{unused_then, blame_result}
use Rattle.disk_acts.specs.Acts.{act_pages}
use Rattle.disk_acts.specs.Steps.{MayStep, Steps, SaysPage, node_result, beside_anodes}
use Rattle.disk_acts.proofs.Beside.{holds_beside}

-- an error of the log
node_fault : (fault : LogFault) (old new : View) → IsDiskOrMemory fault old new → IsNodeFault (log_fault fault) old new
node_fault logs.Failed old new is = is
node_fault logs.Memory old new is = tt
node_fault (logs.Full free needed) old new is = absurd is
node_fault (logs.NotALog place) old new is = absurd is

-- which pages an act may put
pub page_among : (slot page p : ℕ) → is_anode page ≡ false → is_page page p ≡ true → act_pages slot p ≡ true
page_among slot page p none is =
    let same : p ≡ page = grind (arith, nat_tests, is) in
    (λ i. not (is_anode (same i)) || slot_pages slot p) ∙ (λ i. not (none i) || slot_pages slot p)

pub slot_among : (slot p : ℕ) → slot_pages slot p ≡ true → act_pages slot p ≡ true
slot_among slot p is = by (not (is_anode p)) is
  where
    by : (a : Bool) → slot_pages slot p ≡ true → (a || slot_pages slot p) ≡ true
    by true is = refl
    by false is = is

-- a page that was put
module _ {D : Type 0} (tells : Type 0) (view : D → View) (page : ℕ) (P : List ℕ → Type 0) (old new : Log D) (tx changed : Tx) (same : changed ≡ tx) where
  put_steps : {T : Type 0} (value : T) → PutsOne tells view (slot_of tx) page P (Ok value) old new → Steps tells view (is_page page) 0 (Ok value) old new tx changed
  put_steps value put = record {
    sound = put.keeps.sound;
    same = same;
    puts = put.puts;
    room = λ told. (let le = put.room told in omega (arith, le));
    wrote = λ told. wrote_quiet (λ block. count_now (state_of old) (view (disk_of old)).image block) (state_of old) (view (disk_of old)) (view (disk_of new)) put.quiet;
    counted = put.keeps.counted;
    only = tt;
  }

  put_failed : {T : Type 0} (fault : LogFault) → PutsOne {T = T} tells view (slot_of tx) page P (Err fault) old new → Steps {T = T} tells view (is_page page) 0 (Err (log_fault fault)) old new tx changed
  put_failed fault put = record {
    sound = put.keeps.sound;
    same = same;
    puts = put.puts;
    room = λ told. tt;
    wrote = λ told. wrote_quiet (λ block. count_now (state_of old) (view (disk_of old)).image block) (state_of old) (view (disk_of old)) (view (disk_of new)) put.quiet;
    counted = put.keeps.counted;
    only = node_fault fault (view (disk_of old)) (view (disk_of new)) put.only;
  }

  steps_by : {T : Type 0} (put : Result T LogFault) → PutsOne tells view (slot_of tx) page P put old new → Steps tells view (is_page page) 0 (node_result put) old new tx changed
  steps_by (Ok value) one = put_steps value one
  steps_by (Err fault) one = put_failed fault one

anode_apart : (page p : ℕ) → is_anode page ≡ false → is_anode p ≡ true → p ≢ page
anode_apart page p none is e = let both : true ≡ false = sym is ∙ ap is_anode e ∙ none in absurd (grind (arith, both))

module _ {D : Type 0} (tells : Type 0) (view : D → View) (page slot : ℕ) (P : List ℕ → Type 0) (old new : Log D) (low : page < 1058) (none : is_anode page ≡ false) where
  anodes_stay : {T : Type 0} (value : T) → PutsOne tells view slot page P (Ok value) old new → tells → (slots : ℕ → List Anode) → AnodesAre view slots old → AnodesAre view slots new
  anodes_stay value put told slots keeps =
      let blocks : (state_of new).superblock ≡ (state_of old).superblock = ap (λ (s : State). s.superblock) put.puts.rest in
      let others = put.others told in
      let held = holds_beside (kept_anodes slots) (state_of old).superblock.blocks (λ p. page_in (contents_of view old) p) (λ p. page_in (contents_of view new) p) (view (disk_of old)).image keeps.held
      (λ p is. others p (anode_apart page p none is)) (λ p from lt. others p (λ e. (let f : p ≡ page = e in absurd (omega (arith, f, from, low))))) in
      record {
        held =
            subst (λ (l : List ℕ). Holds (kept_anodes slots) (state_of new).superblock.blocks (λ p. page_in (contents_of view new) p) l) (sym put.quiet.image)
            (subst (λ (s : Superblock). Holds (kept_anodes slots) s.blocks (λ p. page_in (contents_of view new) p) (view (disk_of old)).image) (sym blocks) held);
        each = keeps.each;
      }

  said_by : {T : Type 0} (put : Result T LogFault) → PutsOne tells view slot page P put old new → SaysPage tells view page P (node_result put) old new
  said_by (Ok value) one = λ told. record {
    here = one.here told;
    others = λ p lt apart. one.others told p apart;
    anodes = anodes_stay value one told;
  }
  said_by (Err fault) one = λ told. tt

-- whatever it answered
pub page_steps : {D T : Type 0} (tells : Type 0) (view : D → View) (page at : ℕ) (P : List ℕ → Type 0) (old new : Log D) (tx changed : Tx) (result : Result T NodeFault) (put : Result T LogFault)
    → at ≡ page → changed ≡ tx → result ≡ node_result put → PutsOne tells view (slot_of tx) at P put old new → Steps tells view (is_page page) 0 result old new tx changed
page_steps {T = T} tells view page at P old new tx changed result put here same is one =
    subst (λ (r : Result T NodeFault). Steps tells view (is_page page) 0 r old new tx changed) (sym is)
    (steps_by tells view page P old new tx changed same put (subst (λ (n : ℕ). PutsOne tells view (slot_of tx) n P put old new) here one))

pub page_said : {D T : Type 0} (tells : Type 0) (view : D → View) (page at slot : ℕ) (P : List ℕ → Type 0) (old new : Log D) (result : Result T NodeFault) (put : Result T LogFault)
    → at ≡ page → result ≡ node_result put → page < 1058 → is_anode page ≡ false → PutsOne tells view slot at P put old new → SaysPage tells view page P result old new
page_said {T = T} tells view page at slot P old new result put here is low none one =
    subst (λ (r : Result T NodeFault). SaysPage tells view page P r old new) (sym is)
    (said_by tells view page slot P old new low none put (subst (λ (n : ℕ). PutsOne tells view slot n P put old new) here one))

-- pages that aren't anodes'
and_none : (a b : Bool) → b ≡ false → (a && b) ≡ false
and_none true b e = e
and_none false b e = refl

beside_none : (p : ℕ) → nat_le 2 ((p - 2) % 66) ≡ false → is_anode p ≡ false
beside_none p e = and_none (nat_le 2 p && nat_lt p 1058) (nat_le 2 ((p - 2) % 66)) e

pub header_none : (s : ℕ) → is_anode (2 + 66 * s) ≡ false
header_none s = beside_none (2 + 66 * s) (let e : (2 + 66 * s - 2) % 66 ≡ 0 = omega arith in grind (arith, nat_tests, e))

pub numbers_none : (s : ℕ) → is_anode (3 + 66 * s) ≡ false
numbers_none s = beside_none (3 + 66 * s) (let e : (3 + 66 * s - 2) % 66 ≡ 1 = omega arith in grind (arith, nat_tests, e))

-- a page among those beside anodes, and these among the pages of an act
pub page_beside : (page p : ℕ) → is_anode page ≡ false → is_page page p ≡ true → beside_anodes p ≡ true
page_beside page p none is = let same : p ≡ page = grind (arith, nat_tests, is) in (λ i. not (is_anode (same i))) ∙ (λ i. not (none i))

pub beside_among : (slot p : ℕ) → beside_anodes p ≡ true → act_pages slot p ≡ true
beside_among slot p is = λ i. is i || slot_pages slot p

-- what a step asks, of fewer pages and with less room
pub step_less : {D : Type 0} (tells : Type 0) (view : D → View) (pages wider : ℕ → Bool) (a b : ℕ) (log : Log D) (tx : Tx) → ((p : ℕ) → pages p ≡ true → wider p ≡ true) → a ≤ b
    → MayStep tells view wider b log tx → MayStep tells view pages a log tx
step_less tells view pages wider a b log tx fewer le may = record {
  sound = may.sound;
  may = may_fewer pages wider (state_of log) (slot_of tx) fewer may.may;
  room = λ told. (let room = may.room told in omega (arith, room, le));
}

-- and after a step
pub step_after : {D T : Type 0} (tells : Type 0) (view : D → View) (pages wider : ℕ → Bool) (a b c : ℕ) (value : T) (old mid : Log D) (tx changed : Tx) → ((p : ℕ) → pages p ≡ true → wider p ≡ true) → a + b ≤ c
    → MayStep tells view wider c old tx → Steps tells view pages a (Ok value) old mid tx changed → MayStep tells view wider b mid changed
step_after tells view pages wider a b c value old mid tx changed fewer le may step = record {
  sound = step.sound;
  may = subst (λ (x : Tx). MayPutAll wider (state_of mid) (slot_of x)) (sym step.same) (step.puts.may wider fewer may.may);
  room = λ told. (let e = may.room told in let f = step.room told in omega (arith, e, f, le));
}

-- a step among more pages, and with more room
pub steps_wider : {D T : Type 0} (tells : Type 0) (view : D → View) (pages wider : ℕ → Bool) (a b : ℕ) (result : Result T NodeFault) (old new : Log D) (tx changed : Tx) → ((p : ℕ) → pages p ≡ true → wider p ≡ true) → a ≤ b
    → Steps tells view pages a result old new tx changed → Steps tells view wider b result old new tx changed
steps_wider {T = T} tells view pages wider a b result old new tx changed fewer le step = record {
  sound = step.sound;
  same = step.same;
  puts = puts_wider pages wider (slot_of tx) (state_of old) (state_of new) fewer step.puts;
  room = λ told. more _ _ result (step.room told);
  wrote = step.wrote;
  counted = step.counted;
  only = step.only;
}
  where
    more : (m n : ℕ) (r : Result T NodeFault) → OnOk r (m ≤ n + a) → OnOk r (m ≤ n + b)
    more m n (Ok value) le_2 = omega (arith, le, le_2)
    more m n (Err fault) le_2 = tt

-- one step after another
pub steps_then : {D T U : Type 0} (tells : Type 0) (view : D → View) (first second wider : ℕ → Bool) (a b c : ℕ) (value : T) (result : Result U NodeFault) (old mid new : Log D) (tx tx_2 tx_3 : Tx)
    → ((p : ℕ) → first p ≡ true → wider p ≡ true) → ((p : ℕ) → second p ≡ true → wider p ≡ true) → a + b ≤ c
    → Steps tells view first a (Ok value) old mid tx tx_2 → Steps tells view second b result mid new tx_2 tx_3 → Steps tells view wider c result old new tx tx_3
steps_then {U = U} tells view first second wider a b c value result old mid new tx tx_2 tx_3 one_in two_in le one two = record {
  sound = two.sound;
  same = two.same ∙ one.same;
  puts = puts_then wider (slot_of tx) (state_of old) (state_of mid) (state_of new) (puts_wider first wider (slot_of tx) (state_of old) (state_of mid) one_in one.puts)
      (subst (λ (x : Tx). PutsPages wider (slot_of x) (state_of mid) (state_of new)) one.same (puts_wider second wider (slot_of tx_2) (state_of mid) (state_of new) two_in two.puts));
  room = λ told. more _ _ _ result (one.room told) (two.room told);
  wrote = λ told. unused_then (state_of old) (state_of mid) (view (disk_of old)) (view (disk_of mid)) (view (disk_of new)) one.puts.rest (one.wrote told) (two.wrote told);
  counted = (let e = one.counted in let f = two.counted in omega (arith, e, f));
  only = blame_result result (view (disk_of old)) (view (disk_of mid)) (view (disk_of new)) one.counted two.only;
}
  where
    more : (x y z : ℕ) (r : Result U NodeFault) → x ≤ y + a → OnOk r (y ≤ z + b) → OnOk r (x ≤ z + c)
    more x y z (Ok value) e f = omega (arith, le, e, f)
    more x y z (Err fault) e f = tt

-- a step that failed
pub steps_failed : {D T U : Type 0} (tells : Type 0) (view : D → View) (pages wider : ℕ → Bool) (a c : ℕ) (fault : NodeFault) (old new : Log D) (tx changed : Tx) → ((p : ℕ) → pages p ≡ true → wider p ≡ true)
    → Steps {T = T} tells view pages a (Err fault) old new tx changed → Steps {T = U} tells view wider c (Err fault) old new tx changed
steps_failed tells view pages wider a c fault old new tx changed fewer failed = record {
  sound = failed.sound;
  same = failed.same;
  puts = puts_wider pages wider (slot_of tx) (state_of old) (state_of new) fewer failed.puts;
  room = λ told. tt;
  wrote = failed.wrote;
  counted = failed.counted;
  only = failed.only;
}

-- no step
pub steps_none : {D T : Type 0} (tells : Type 0) (view : D → View) (pages : ℕ → Bool) (blocks : ℕ) (value : T) (log : Log D) (tx : Tx) → IsSoundLog tells view log → Steps tells view pages blocks (Ok value) log log tx tx
steps_none tells view pages blocks value log tx sound = record {
  sound = sound;
  same = refl;
  puts = puts_none pages (slot_of tx) (state_of log) (state_of log) refl;
  room = λ told. omega arith;
  wrote = λ told. wrote_quiet (λ block. count_now (state_of log) (view (disk_of log)).image block) (state_of log) (view (disk_of log)) (view (disk_of log))
      (record { image = refl; later = omega arith; now = λ c left. left; since = λ t c le left. left; kept = λ t c le left. left });
  counted = omega arith;
  only = tt;
}

-- a call that changes a slot is one
pub slot_steps : {D T : Type 0} (tells : Type 0) (view : D → View) (slot blocks : ℕ) (result : Result T NodeFault) (old new : Log D) (tx changed : Tx) → ChangesSlot tells view slot blocks result old new tx changed
    → Steps tells view (act_pages slot) blocks result old new tx changed
slot_steps tells view slot blocks result old new tx changed change = record {
  sound = change.sound;
  same = change.same;
  puts = puts_wider (slot_pages slot) (act_pages slot) (slot_of tx) (state_of old) (state_of new) (slot_among slot) change.puts;
  room = change.room;
  wrote = change.wrote;
  counted = change.counted;
  only = change.only;
}

-- an answer that is another one
pub steps_as : {D T : Type 0} (tells : Type 0) (view : D → View) (pages : ℕ → Bool) (blocks : ℕ) (result other : Result T NodeFault) (old new : Log D) (tx changed : Tx) → result ≡ other
    → Steps tells view pages blocks other old new tx changed → Steps tells view pages blocks result old new tx changed
steps_as {T = T} tells view pages blocks result other old new tx changed same one = subst (λ (r : Result T NodeFault). Steps tells view pages blocks r old new tx changed) (sym same) one

-- a step that answers something else
pub steps_value : {D T U : Type 0} (tells : Type 0) (view : D → View) (pages : ℕ → Bool) (blocks : ℕ) (value : T) (other : U) (old new : Log D) (tx changed : Tx)
    → Steps {T = T} tells view pages blocks (Ok value) old new tx changed → Steps {T = U} tells view pages blocks (Ok other) old new tx changed
steps_value tells view pages blocks value other old new tx changed step = record {
  sound = step.sound;
  same = step.same;
  puts = step.puts;
  room = step.room;
  wrote = step.wrote;
  counted = step.counted;
  only = tt;
}
