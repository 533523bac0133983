-- Steps in which stores keep a history.
use Rattle.std.proofs.Common.{◌≡◌, ◌≢◌, ◌≤◌, ◌<◌, ◌⊎◌, ◌+◌, ◌++◌, ◌∙◌, ℕ, zero, suc, List, [], ◌∷◌, length, inl, inr, refl, sym, subst, ap, append_assoc, arith}
use Rattle.std.specs.Prelude.{◌==◌, Bool, true, false, filter, if◌then◌else◌, Option, None, Result, Ok}
use Rattle.std.proofs.lemmas.Bool.{cond-true, cond-false}
use Rattle.std.proofs.lemmas.List.{append-nil}
use Rattle.std.proofs.lemmas.List.Elements.{filter-append}
use Rattle.base_types.specs.declared.ids.FilesetId.{FilesetId}
use Rattle.base_types.specs.declared.ids.ServerId.{ServerId}
use Rattle.tree_calls.specs.declared.entry.Entry.{Entry}
use Rattle.tree_calls.specs.declared.entry.Entry.TheVariants.{Left as LeftEntry}
use Rattle.tree_calls.specs.declared.roster.Roster.{Roster}
use Rattle.tree_answers.specs.Histories.{after_entry, after_history}
use Rattle.tree_answers.specs.declared.tree.Tree.{Tree}
use Rattle.message_types.specs.Soundness.{Each}
use Rattle.store_acts.specs.declared.act.Act.{Act}
use Rattle.store_acts.specs.declared.act.Act.TheVariants.{Boot, Epoch, Host, Do, Refuse, Give, Leave, Back, Left, Settle, Part}
use Rattle.store_laws.specs.Acts.{acts_of, entry_acts, number_written}
use Rattle.store_laws.specs.MovedLaws.{move_entry}
use Rattle.store_memory.specs.Views.{View}
use Rattle.store_state.specs.declared.state.StoreState.{StoreState}
use Rattle.service_moves.specs.Again.{IsNumbered}
use Rattle.service_moves.specs.Doing.{Step, DoSteps, acts_at, steps_of}
use Rattle.service_moves.specs.Plans.{states_at, AreMoves}
use Rattle.service_moves.proofs.Doing.{acts_append, acts_other, acts_own}
use Rattle.service_moves.proofs.Stores.{either_place}
use Rattle.service_moves.proofs.Whole.{Has, moves_behind, moves_have, moves_kind, moves_none, moves_wider}
use Rattle.service_stores.specs.Plans.{is_asked, AreOfHistory, IsMovedIn, IsOfHistory}
use Rattle.service_stores.proofs.Sound.{acts_numbered}

-- the acts of the first stores, one store after the other
pub each_steps : (ℕ → List Act) → ℕ → List Step
each_steps acts zero = []
each_steps acts (suc n) = each_steps acts n ++ steps_of n (acts n)

pub each_none : (acts : ℕ → List Act) → each_steps acts 0 ≡ []
unfolding each_steps
each_none acts = refl

pub each_suc : (acts : ℕ → List Act) (n : ℕ) → each_steps acts (suc n) ≡ each_steps acts n ++ steps_of n (acts n)
unfolding each_steps
each_suc acts n = refl

pub each_more : (acts : ℕ → List Act) (n : ℕ) → each_steps acts (n + 1) ≡ each_steps acts n ++ steps_of n (acts n)
each_more acts n = (let e : n + 1 ≡ suc n = omega arith in ap (each_steps acts) e ∙ each_suc acts n)

each_behind : (acts : ℕ → List Act) (n k : ℕ) → n ≤ k → acts_at k (each_steps acts n) ≡ []
each_behind acts zero k le = ap (acts_at k) (each_none acts)
each_behind acts (suc n) k le =
    ap (acts_at k) (each_suc acts n) ∙ acts_append k (each_steps acts n) (steps_of n (acts n))
    ∙ ap (λ (l : List Act). l ++ acts_at k (steps_of n (acts n))) (each_behind acts n k (omega (arith, le)))
    ∙ acts_other k n (acts n) (λ e. omega (arith, e, le))

below_last : (k n : ℕ) → k < suc n → k ≢ n → k < n
below_last k n lt apart = omega (arith, lt, apart)

here_or : (acts : ℕ → List Act) (n k : ℕ) → k < suc n → (k ≡ n) ⊎ (k ≢ n) → (k < n → acts_at k (each_steps acts n) ≡ acts k)
    → acts_at k (each_steps acts n) ++ acts_at k (steps_of n (acts n)) ≡ acts k
here_or acts n k lt (inl e) before =
    ap (λ (l : List Act). l ++ acts_at k (steps_of n (acts n))) (each_behind acts n k (omega (arith, e)))
    ∙ ap (λ (j : ℕ). acts_at j (steps_of n (acts n))) e ∙ acts_own n (acts n) ∙ ap acts (sym e)
here_or acts n k lt (inr apart) before =
    ap (λ (l : List Act). l ++ acts_at k (steps_of n (acts n))) (before (below_last k n lt apart))
    ∙ ap (λ (l : List Act). acts k ++ l) (acts_other k n (acts n) (λ e. apart (sym e))) ∙ append-nil (acts k)

pub each_here : (acts : ℕ → List Act) (n k : ℕ) → k < n → acts_at k (each_steps acts n) ≡ acts k
each_here acts zero k lt = absurd (omega (arith, lt))
each_here acts (suc n) k lt =
    ap (acts_at k) (each_suc acts n) ∙ acts_append k (each_steps acts n) (steps_of n (acts n))
    ∙ here_or acts n k lt (either_place k n) (λ low. each_here acts n k low)

-- which acts are of a history

asked_so : (act : Act) → IsNumbered act → is_asked act ≡ true
asked_so (Do host number call) is = refl
asked_so (Refuse host id number refusal) is = refl
asked_so (Give host number fid pieces given) is = refl
asked_so Boot is = absurd is
asked_so Epoch is = absurd is
asked_so (Host host known) is = absurd is
asked_so (Leave id to) is = absurd is
asked_so (Back host number id refusal) is = absurd is
asked_so (Left id) is = absurd is
asked_so (Settle id) is = absurd is
asked_so (Part from ship id moves at part) is = absurd is

all_asked : (acts : List Act) → Each IsNumbered acts → filter is_asked acts ≡ acts
all_asked [] each = refl
all_asked (act ∷ acts) each = cond-true (is_asked act) (act ∷ filter is_asked acts) (filter is_asked acts) (asked_so act each.0) ∙ ap (λ (l : List Act). act ∷ l) (all_asked acts each.1)

none_asked : (acts : List Act) → Each (λ act. is_asked act ≡ false) acts → filter is_asked acts ≡ []
none_asked [] each = refl
none_asked (act ∷ acts) each = cond-false (is_asked act) (act ∷ filter is_asked acts) (filter is_asked acts) each.0 ∙ none_asked acts each.1

put_each : (P : Act → Type 0) (here : Bool) (act : Act) (acts : List Act) → P act → Each P acts → Each P (if here then act ∷ acts else acts)
put_each P true act acts p each = (p, each)
put_each P false act acts p each = each

each_at : (P : Act → Type 0) (k : ℕ) (steps : List Step) → Each (λ (step : Step). P step.act) steps → Each P (acts_at k steps)
each_at P k [] each = tt
each_at P k (step ∷ steps) each = put_each P (step.place == k) step.act (acts_at k steps) each.0 (each_at P k steps each.1)

-- each is of any history
numbered_kind : (history : List Entry) (act : Act) → IsNumbered act → IsOfHistory history act
numbered_kind history (Do host number call) is = tt
numbered_kind history (Refuse host id number refusal) is = tt
numbered_kind history (Give host number fid pieces given) is = tt
numbered_kind history Boot is = absurd is
numbered_kind history Epoch is = absurd is
numbered_kind history (Host host known) is = absurd is
numbered_kind history (Leave id to) is = absurd is
numbered_kind history (Back host number id refusal) is = absurd is
numbered_kind history (Left id) is = absurd is
numbered_kind history (Settle id) is = absurd is
numbered_kind history (Part from ship id moves at part) is = absurd is

-- steps of which each is
abbrev Of : List Entry → List Step → Type 0
Of history steps = Each (λ (step : Step). IsOfHistory history step.act) steps

of_append : (history : List Entry) (front behind : List Step) → Of history front → Of history behind → Of history (front ++ behind)
of_append history [] behind first second = second
of_append history (step ∷ front) behind first second = (first.0, of_append history front behind first.1 second)

of_store : (history : List Entry) (place : ℕ) (acts : List Act) → Each IsNumbered acts → Of history (steps_of place acts)
of_store history place [] each = tt
of_store history place (act ∷ acts) each = (numbered_kind history act each.0, of_store history place acts each.1)

of_each : (history : List Entry) (acts : ℕ → List Act) (n : ℕ) → ((k : ℕ) → Each IsNumbered (acts k)) → Of history (each_steps acts n)
of_each history acts zero each = subst (Of history) (sym (each_none acts)) tt
of_each history acts (suc n) each = subst (Of history) (sym (each_suc acts n)) (of_append history (each_steps acts n) (steps_of n (acts n)) (of_each history acts n each) (of_store history n (acts n) (each n)))

-- what a part of a history moves, the whole of it moves
pub in_front : (xs ys : List Entry) (id : FilesetId) (to : ServerId) → IsMovedIn xs id to → IsMovedIn (xs ++ ys) id to
in_front xs ys id to m = record {
  before = m.before;
  behind = m.behind ++ ys;
  host = m.host;
  k = m.k;
  server = m.server;
  name = m.name;
  from = m.from;
  is = ap (λ (l : List Entry). l ++ ys) m.is ∙ append_assoc m.before (move_entry m.host m.k m.server m.name to ∷ LeftEntry m.from id ∷ m.behind) ys;
}

pub in_rest : (xs ys : List Entry) (id : FilesetId) (to : ServerId) → IsMovedIn ys id to → IsMovedIn (xs ++ ys) id to
in_rest xs ys id to m = record {
  before = xs ++ m.before;
  behind = m.behind;
  host = m.host;
  k = m.k;
  server = m.server;
  name = m.name;
  from = m.from;
  is = ap (λ (l : List Entry). xs ++ l) m.is ∙ sym (append_assoc xs m.before (move_entry m.host m.k m.server m.name to ∷ LeftEntry m.from id ∷ m.behind));
}

-- an act that is of one history is of another one which moves at least as much
wider : (few more : List Entry) → ((id : FilesetId) (to : ServerId) → IsMovedIn few id to → IsMovedIn more id to) → (act : Act) → IsOfHistory few act → IsOfHistory more act
wider few more so (Do host number call) is = tt
wider few more so (Refuse host id number refusal) is = tt
wider few more so (Give host number fid pieces given) is = tt
wider few more so (Leave id to) is = so id to is
wider few more so Boot is = absurd is
wider few more so Epoch is = absurd is
wider few more so (Host host known) is = absurd is
wider few more so (Back host number id refusal) is = absurd is
wider few more so (Left id) is = absurd is
wider few more so (Settle id) is = absurd is
wider few more so (Part from ship id moves at part) is = absurd is

-- the number behind some entries
pub last_number : Option ℕ → List Entry → Option ℕ
last_number number [] = number
last_number number (entry ∷ entries) = last_number (number_written entry) entries

pub number_none : last_number None [] ≡ None
unfolding last_number
number_none = refl

pub number_next : (number : Option ℕ) (entry : Entry) (entries : List Entry) → last_number number (entry ∷ entries) ≡ last_number (number_written entry) entries
unfolding last_number
number_next number entry entries = refl

pub number_self : (number : Option ℕ) → last_number number [] ≡ number
unfolding last_number
number_self number = refl

pub number_both : (number : Option ℕ) (xs ys : List Entry) → last_number number (xs ++ ys) ≡ last_number (last_number number xs) ys
number_both number [] ys = ap (λ n. last_number n ys) (sym (number_self number))
number_both number (x ∷ xs) ys = number_next number x (xs ++ ys) ∙ number_both (number_written x) xs ys ∙ ap (λ n. last_number n ys) (sym (number_next number x xs))

-- the acts of a history that is cut
pub acts_both : (server : ServerId) (tree : Tree) (number : Option ℕ) (xs ys : List Entry)
    → acts_of server tree number (xs ++ ys) ≡ acts_of server tree number xs ++ acts_of server (after_history tree xs) (last_number number xs) ys
acts_both server tree number [] ys = ap (λ n. acts_of server tree n ys) (sym (number_self number))
acts_both server tree number (x ∷ xs) ys =
    ap (λ (l : List Act). entry_acts server tree number x ++ l) (acts_both server (after_entry tree x) (number_written x) xs ys)
    ∙ sym (append_assoc (entry_acts server tree number x) (acts_of server (after_entry tree x) (number_written x) xs) (acts_of server (after_history (after_entry tree x) xs) (last_number (number_written x) xs) ys))
    ∙ ap (λ n. (entry_acts server tree number x ++ acts_of server (after_entry tree x) (number_written x) xs) ++ acts_of server (after_history (after_entry tree x) xs) n ys) (sym (number_next number x xs))

-- the acts of the servers of a piece that moves nothing
pub piece_acts : Tree → List Entry → ℕ → List Act
piece_acts tree history k = acts_of (record { 0 = k + 1 }) tree None history

pub piece_is : (tree : Tree) (history : List Entry) (k : ℕ) → piece_acts tree history k ≡ acts_of (record { 0 = k + 1 }) tree None history
unfolding piece_acts
piece_is tree history k = refl

pub quiet_steps : (states : ℕ → Option StoreState) (tree : Tree) (history : List Entry) (n : ℕ) → n ≡ length tree.roster.capacity → AreOfHistory tree history states (each_steps (piece_acts tree history) n)
quiet_steps states tree history n size = record {
  asked = λ k lt.
      (let low : k < n = omega (arith, lt, size) in
      ap (filter is_asked) (each_here (piece_acts tree history) n k low ∙ piece_is tree history k) ∙ all_asked (acts_of (record { 0 = k + 1 }) tree None history) (acts_numbered (record { 0 = k + 1 }) history tree None));
  moves =
      moves_kind (IsOfHistory history) states (each_steps (piece_acts tree history) n)
      (of_each history (piece_acts tree history) n (λ k. subst (Each IsNumbered) (sym (piece_is tree history k)) (acts_numbered (record { 0 = k + 1 }) history tree None)));
}

-- nothing happened
pub no_history : (tree : Tree) (states : ℕ → Option StoreState) → AreOfHistory tree [] states []
no_history tree states = record { asked = λ k lt. refl; moves = moves_none (IsOfHistory []) states }

module _ {S T E : Type 0} (view : S → View) (value : T) (old mid : List S) (start : Tree) (xs ys : List Entry) (first second : List Step) (does : DoSteps {E = E} view (Ok value) first old mid) where
  -- one history behind another
  pub history_then : (middle : Tree) → middle ≡ after_history start xs → middle.roster ≡ start.roster → last_number None xs ≡ None
      → AreOfHistory start xs (states_at view old) first → AreOfHistory middle ys (states_at view mid) second → AreOfHistory start (xs ++ ys) (states_at view old) (first ++ second)
  history_then middle is same none before behind = record {
    asked = λ k lt.
        (let server : ServerId = record { 0 = k + 1 } in
        let low : k < length middle.roster.capacity = subst (λ (r : Roster). k < length r.capacity) (sym same) lt in
        ap (filter is_asked) (acts_append k first second) ∙ filter-append is_asked (acts_at k first) (acts_at k second)
        ∙ ap (λ (l : List Act). l ++ filter is_asked (acts_at k second)) (before.asked k lt) ∙ ap (λ (l : List Act). acts_of server start None xs ++ l) (behind.asked k low)
        ∙ ap (λ (t : Tree). acts_of server start None xs ++ acts_of server t None ys) is ∙ ap (λ n. acts_of server start None xs ++ acts_of server (after_history start xs) n ys) (sym none)
        ∙ sym (acts_both server start None xs ys));
    moves =
        moves_behind (IsOfHistory (xs ++ ys)) view value first second old mid
        (moves_wider (IsOfHistory xs) (IsOfHistory (xs ++ ys)) (wider xs (xs ++ ys) (in_front xs ys)) (states_at view old) first before.moves) does
        (moves_wider (IsOfHistory ys) (IsOfHistory (xs ++ ys)) (wider ys (xs ++ ys) (in_rest xs ys)) (states_at view mid) second behind.moves);
  }

  -- a move behind a history, with entries that give no store an act
  pub move_then : (id : FilesetId) (to : ServerId) → IsMovedIn ys id to → ((server : ServerId) (tree : Tree) (number : Option ℕ) → acts_of server tree number ys ≡ []) → AreOfHistory start xs (states_at view old) first
      → AreMoves (λ act. act ≡ Leave id to) (states_at view mid) second → AreOfHistory start (xs ++ ys) (states_at view old) (first ++ second)
  move_then id to moved empty before moves = record {
    asked = λ k lt.
        (let server : ServerId = record { 0 = k + 1 } in
        ap (filter is_asked) (acts_append k first second) ∙ filter-append is_asked (acts_at k first) (acts_at k second)
        ∙ ap (λ (l : List Act). l ++ filter is_asked (acts_at k second)) (before.asked k lt)
        ∙ ap (λ (l : List Act). acts_of server start None xs ++ l) (none_asked (acts_at k second) (each_at (λ act. is_asked act ≡ false) k second unasked))
        ∙ ap (λ (l : List Act). acts_of server start None xs ++ l) (sym (empty server (after_history start xs) (last_number None xs))) ∙ sym (acts_both server start None xs ys));
    moves =
        moves_behind (IsOfHistory (xs ++ ys)) view value first second old mid
        (moves_wider (IsOfHistory xs) (IsOfHistory (xs ++ ys)) (wider xs (xs ++ ys) (in_front xs ys)) (states_at view old) first before.moves) does
        (moves_wider (λ act. act ≡ Leave id to) (IsOfHistory (xs ++ ys)) (λ act is. subst (IsOfHistory (xs ++ ys)) (sym is) (in_rest xs ys id to moved)) (states_at view mid) second moves);
  }
    where
      unasked : Each (λ (step : Step). is_asked step.act ≡ false) second
      unasked =
          moves_have (λ act. act ≡ Leave id to) (λ act. is_asked act ≡ false)
          (record { of_kind = λ act is. ap is_asked is; of_part = λ from ship other count at part. refl; of_left = λ other. refl }) (states_at view mid) second moves
