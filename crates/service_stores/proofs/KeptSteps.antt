-- Stores keep a history, piece by piece and move by move.
use Rattle.std.proofs.Common.{◌≡◌, ◌≤◌, ◌<◌, ◌⊎◌, ◌+◌, ◌++◌, ◌∙◌, ℕ, zero, suc, List, [], ◌∷◌, length, set, take, inl, inr, refl, sym, subst, ap, arith}
use Rattle.std.specs.Prelude.{slice_get, drop, Option, Some, None, Result, Ok, Err, OnOk}
use Rattle.std.specs.List.{position}
use Rattle.std.proofs.lemmas.Option.{same_Some}
use Rattle.std.proofs.lemmas.List.{append-nil, append_assoc, length-take}
use Rattle.std.proofs.Math.Seq.{take-length}
use Rattle.base_types.specs.declared.ids.HostId.{HostId}
use Rattle.base_types.specs.declared.ids.ServerId.{ServerId}
use Rattle.tree_calls.specs.declared.entry.Entry.{Entry}
use Rattle.tree_calls.specs.declared.entry.Entry.TheVariants.{Left}
use Rattle.tree_filesets.specs.declared.fileset.Fileset.{Fileset}
use Rattle.tree_answers.specs.Histories.{after_history}
use Rattle.tree_answers.specs.WellFormed.{IsWellFormed}
use Rattle.tree_answers.specs.declared.tree.Tree.{Tree}
use Rattle.store_laws.specs.Acts.{acts_of, number_written}
use Rattle.store_laws.specs.Happening.{MayHappen}
use Rattle.store_laws.specs.HistoryLaws.{Happens, IsBehind}
use Rattle.store_laws.specs.KeptMoves.{Moves}
use Rattle.store_laws.specs.MovedLaws.{move_entry, moves_one, numbers_after}
use Rattle.store_laws.specs.MoveKeeping.{KeepAll}
use Rattle.store_laws.specs.TreeKeeping.{KeepsOf}
use Rattle.store_acts.specs.declared.act.Act.{Act}
use Rattle.store_acts.specs.declared.act.Act.TheVariants.{Leave}
use Rattle.store_memory.specs.Views.{View, DoesActs}
use Rattle.service_moves.specs.Doing.{Step, DoSteps, steps_of}
use Rattle.service_moves.specs.Plans.{states_at, AreMoves}
use Rattle.service_moves.specs.Stores.{states_of}
use Rattle.service_moves.specs.declared.stopped.RunStopped.{RunStopped}
use Rattle.service_moves.proofs.Doing.{steps_none, steps_one, steps_stop, steps_then}
use Rattle.service_moves.proofs.Stores.{map_there, on_ok_then}
use Rattle.service_stores.specs.Plans.{AreOfHistory, IsMovedIn, KeepsHistory}
use Rattle.service_stores.proofs.Doing.{steps_failed}
use Rattle.service_stores.proofs.Goes.{QuietKeeps}
use Rattle.service_stores.proofs.Histories.{has_two, moves_at, roster_after}
use Rattle.service_stores.proofs.KeepStores.{Passed}
use Rattle.service_stores.proofs.Planned.{each_more, each_none, each_steps, each_suc, history_then, last_number, move_then, no_history, number_both, number_next, number_self, piece_acts, piece_is, quiet_steps}

take_less : {A : Type 0} (a b : ℕ) (xs : List A) → a ≤ b → take a (take b xs) ≡ take a xs
take_less zero b xs le = refl
take_less (suc a) zero xs le = absurd (omega (arith, le))
take_less (suc a) (suc b) [] le = refl
take_less (suc a) (suc b) (x ∷ xs) le = ap (λ l. x ∷ l) (take_less a b xs (omega (arith, le)))

pub take_both : {A : Type 0} (n m : ℕ) (xs : List A) → take n xs ++ take m (drop n xs) ≡ take (n + m) xs
take_both zero m xs = let e : zero + m ≡ m = omega arith in rw e refl
take_both (suc n) zero [] = let e : suc n + zero ≡ suc n = omega arith in rw e refl
take_both (suc n) (suc m) [] = let e : suc n + suc m ≡ suc (suc (n + m)) = omega arith in rw e refl
take_both (suc n) m (x ∷ xs) = let e : suc n + m ≡ suc (n + m) = omega arith in rw e (ap (λ l. x ∷ l) (take_both n m xs))

pub same_ok : {T E : Type 0} (result : Result T E) (n : ℕ) → OnOk result (n ≡ n)
same_ok (Ok value) n = refl
same_ok (Err error) n = tt

-- one store more did its acts, or failed in them
pub part_more : {S T : Type 0} (view : S → View) (result : Result T RunStopped) (Goes : ℕ → S → S → Type 0) (next : HostId → ℕ) (tree : Tree) (history : List Entry) (k : ℕ) (olds now : List S) (store after : S)
    → KeepAll next tree (states_of view olds) → Passed Goes k olds now → slice_get now k ≡ Some store → DoSteps {T = Unit {0}} {E = RunStopped} view (Ok tt) (each_steps (piece_acts tree history) k) olds now
    → (KeepsOf tree (view store).state → IsBehind next (view store).state → DoesActs result (acts_of (record { 0 = k + 1 }) tree None history) (view store) (view after))
    → DoSteps view result (each_steps (piece_acts tree history) (k + 1)) olds (set now k after)
part_more view result Goes next tree history k olds now store after keep p at so_far does =
    (let was : slice_get olds k ≡ Some store = sym (p.rest k (omega arith)) ∙ at in
    let there = map_there (λ s. (view s).state) olds k store was in
    let acts = acts_of (record { 0 = k + 1 }) tree None history in
    let one = does (keep.keeps k (view store).state there) (keep.behind k (view store).state there) in
    let step : DoSteps view result (steps_of k (piece_acts tree history k)) now (set now k after) =
    subst (λ (l : List Act). DoSteps view result (steps_of k l) now (set now k after)) (sym (piece_is tree history k)) (steps_one view result acts now k store after at one) in
    subst (λ (l : List Step). DoSteps view result l olds (set now k after)) (sym (each_more (piece_acts tree history) k))
    (steps_then view tt result (each_steps (piece_acts tree history) k) (steps_of k (piece_acts tree history k)) olds now (set now k after) so_far step))

-- what is left of them
each_parts : (acts : ℕ → List Act) (k n : ℕ) → k ≤ n → (rest : List Step) × (each_steps acts n ≡ each_steps acts k ++ rest)
each_parts acts k zero le = ([], (let e : k ≡ zero = omega (arith, le) in ap (each_steps acts) (sym e) ∙ sym (append-nil (each_steps acts k))))
each_parts acts k (suc n) le = by (ends k n le) (λ low. each_parts acts k n low)
  where
    ends : (k n : ℕ) → k ≤ suc n → (k ≡ suc n) ⊎ (k ≤ n)
    ends zero n le = inr (omega arith)
    ends (suc k) zero le = inl (omega (arith, le))
    ends (suc k) (suc n) le = grind (arith, le)

    by : (k ≡ suc n) ⊎ (k ≤ n) → (k ≤ n → (rest : List Step) × (each_steps acts n ≡ each_steps acts k ++ rest)) → (rest : List Step) × (each_steps acts (suc n) ≡ each_steps acts k ++ rest)
    by (inl e) before = ([], ap (each_steps acts) (sym e) ∙ sym (append-nil (each_steps acts k)))
    by (inr low) before =
        (let parts = before low in (
          parts.0 ++ steps_of n (acts n),
          each_suc acts n ∙ ap (λ (l : List Step). l ++ steps_of n (acts n)) parts.1 ∙ append_assoc (each_steps acts k) parts.0 (steps_of n (acts n)),
        ))

-- the others weren't begun
pub part_stops : {S T U E F : Type 0} (view : S → View) (result : Result T E) (answer : Result U F) (tree : Tree) (history : List Entry) (k n : ℕ) (olds news : List S) → OnOk answer ⊥ → k + 1 ≤ n → n ≡ length tree.roster.capacity
    → DoSteps view result (each_steps (piece_acts tree history) (k + 1)) olds news → KeepsHistory view answer tree history olds news
part_stops view result answer tree history k n olds news failed low size so_far =
    record {
      count = length history;
      within = omega arith;
      all = on_ok_then answer ⊥ (length history ≡ length history) (λ never. absurd never) failed;
      steps = each_steps (piece_acts tree history) n;
      are = subst (λ (l : List Entry). AreOfHistory tree l (states_at view olds) (each_steps (piece_acts tree history) n)) (sym (take-length history)) (quiet_steps (states_at view olds) tree history n size);
      does = stopped answer failed;
    }
  where
    parts : (rest : List Step) × (each_steps (piece_acts tree history) n ≡ each_steps (piece_acts tree history) (k + 1) ++ rest)
    parts = each_parts (piece_acts tree history) (k + 1) n low

    stopped : {U F : Type 0} (answer : Result U F) → OnOk answer ⊥ → DoSteps view answer (each_steps (piece_acts tree history) n) olds news
    stopped (Ok value) failed = absurd failed
    stopped {U = U} (Err error) failed =
        subst (λ (l : List Step). DoSteps {T = U} view (Err error) l olds news) (sym parts.1) (steps_stop view {U = U} result error (each_steps (piece_acts tree history) (k + 1)) parts.0 olds news so_far)

-- all of them
pub parts_done : {S : Type 0} (view : S → View) (tree : Tree) (history : List Entry) (n : ℕ) (olds news : List S) → n ≡ length tree.roster.capacity
    → DoSteps {T = Unit {0}} {E = RunStopped} view (Ok tt) (each_steps (piece_acts tree history) n) olds news → KeepsHistory {T = Unit {0}} {E = RunStopped} view (Ok tt) tree history olds news
parts_done view tree history n olds news size does = record {
  count = length history;
  within = omega arith;
  all = refl;
  steps = each_steps (piece_acts tree history) n;
  are = subst (λ (l : List Entry). AreOfHistory tree l (states_at view olds) (each_steps (piece_acts tree history) n)) (sym (take-length history)) (quiet_steps (states_at view olds) tree history n size);
  does = does;
}

-- a first part of a first part
pub less_kept : {S T U E F : Type 0} (view : S → View) (result : Result T E) (answer : Result U F) (tree : Tree) (history : List Entry) (a b : ℕ) (olds news : List S) → OnOk answer ⊥ → a ≤ b → KeepsHistory view result tree (take a history) olds news
    → KeepsHistory view answer tree (take b history) olds news
less_kept view result answer tree history a b olds news failed le d =
    (let few = d.within in
    let one = length-take a history in
    let two = length-take b history in
    let low : d.count ≤ a = omega (arith, few, one) in
    record {
      count = d.count;
      within = omega (arith, few, one, two, le);
      all = on_ok_then answer ⊥ (d.count ≡ length (take b history)) (λ never. absurd never) failed;
      steps = d.steps;
      are = subst (λ (l : List Entry). AreOfHistory tree l (states_at view olds) d.steps) (take_less d.count a history low ∙ sym (take_less d.count b history (omega (arith, low, le)))) d.are;
      does = steps_failed view result answer d.steps olds news failed d.does;
    })

-- a piece, and the move behind it
module _ {S T U E : Type 0} (view : S → View) (value : U) (result : Result T E) (next : HostId → ℕ) (tree middle : Tree) (history : List Entry) (place : ℕ) (entry : Entry) (first second third : List S) where
  pub to_does : MayHappen next tree history → position moves_one history ≡ Some place → slice_get history place ≡ Some entry → middle ≡ after_history tree (take place history)
      → QuietKeeps next tree (take place history) (states_of view first) (states_of view second)
      → ((host : HostId) (k : ℕ) (server : ServerId) (name : List ℕ) (to : ServerId) (fileset : Fileset) → entry ≡ move_entry host k server name to → IsWellFormed middle
      → KeepAll (numbers_after next (take place history)) middle (states_of view second) → Moves middle host server name to fileset → k ≡ numbers_after next (take place history) host
      → (steps : List Step) × AreMoves (λ act. act ≡ Leave fileset.id to) (states_at view second) steps × DoSteps view result steps second third)
      → (Happens next tree (take place history) → KeepsHistory {E = E} view (Ok value) tree (take place history) first second) → KeepAll next tree (states_of view first)
      → KeepsHistory view result tree (take (place + 2) history) first third
  to_does may at there e quiet moved begun keep =
      let m = moves_at next tree history place may at in
      let two = has_two next tree history place m in
      let move = move_entry m.host m.k m.server m.name m.to in
      let left = Left m.splits.fileset.server m.splits.fileset.id in
      let is : entry ≡ move = same_Some entry move (sym there ∙ two.first) in
      let then_numbers = numbers_after next (take place history) in
      let formed = subst IsWellFormed (sym e) m.splits.formed in
      let kept = subst (λ t. KeepAll then_numbers t (states_of view second)) (sym e) (quiet m.splits.happens keep) in
      let moves = subst (λ t. Moves t m.host m.server m.name m.to m.splits.fileset) (sym e) m.splits.moves in
      let out = moved m.host m.k m.server m.name m.to m.splits.fileset is formed kept moves m.splits.number in
      let d = begun m.splits.happens in
      let whole : take (place + 2) history ≡ take place history ++ move ∷ left ∷ [] = sym (take_both place 2 history) ∙ ap (λ (l : List Entry). take place history ++ l) two.both in
      let low = two.within in
      let size = length-take (place + 2) history in
      let count : place + 2 ≡ length (take (place + 2) history) = omega (arith, size, low) in
      let before : AreOfHistory tree (take place history) (states_at view first) d.steps = subst (λ (l : List Entry). AreOfHistory tree l (states_at view first) d.steps) (ap (λ n. take n (take place history)) d.all ∙ take-length (take place history)) d.are in
      let it : IsMovedIn (move ∷ left ∷ []) m.splits.fileset.id m.to = record {
        before = [];
        behind = [];
        host = m.host;
        k = m.k;
        server = m.server;
        name = m.name;
        from = m.splits.fileset.server;
        is = refl;
      } in
      let are : AreOfHistory tree (take place history ++ move ∷ left ∷ []) (states_at view first) (d.steps ++ out.0) =
      move_then view value first second tree (take place history) (move ∷ left ∷ []) d.steps out.0 d.does m.splits.fileset.id m.to it (λ server t number. refl) before out.1 in
      record {
        count = length (take (place + 2) history);
        within = omega arith;
        all = same_ok result (length (take (place + 2) history));
        steps = d.steps ++ out.0;
        are = subst (λ (l : List Entry). AreOfHistory tree l (states_at view first) (d.steps ++ out.0)) (sym whole ∙ sym (take-length (take (place + 2) history))) are;
        does = steps_then view value result d.steps out.0 first second third d.does out.2;
      }

-- behind a move no number is left
pub none_behind : (next : HostId → ℕ) (tree : Tree) (history : List Entry) (place : ℕ) (number : Option ℕ) → MayHappen next tree history → position moves_one history ≡ Some place
    → last_number number (take (place + 2) history) ≡ None
none_behind next tree history place number may at =
    let m = moves_at next tree history place may at in
    let two = has_two next tree history place m in
    let move = move_entry m.host m.k m.server m.name m.to in
    let left = Left m.splits.fileset.server m.splits.fileset.id in
    let whole : take (place + 2) history ≡ take place history ++ move ∷ left ∷ [] = sym (take_both place 2 history) ∙ ap (λ (l : List Entry). take place history ++ l) two.both in
    ap (last_number number) whole ∙ number_both number (take place history) (move ∷ left ∷ []) ∙ number_next (last_number number (take place history)) move (left ∷ []) ∙ number_next (number_written move) left []
    ∙ number_self (number_written left)

-- what was kept so far, and a part more
pub kept_more : {S T E : Type 0} (view : S → View) (result : Result T E) (start tree : Tree) (history : List Entry) (from most : ℕ) (olds now news : List S) (steps : List Step) → tree ≡ after_history start (take from history)
    → last_number None (take from history) ≡ None → AreOfHistory start (take from history) (states_at view olds) steps → DoSteps {T = Unit {0}} {E = E} view (Ok tt) steps olds now
    → (d : KeepsHistory view result tree (take most (drop from history)) now news) → AreOfHistory start (take (from + d.count) history) (states_at view olds) (steps ++ d.steps) × DoSteps view result (steps ++ d.steps) olds news
kept_more view result start tree history from most olds now news steps is none are does d =
    let few = d.within in
    let size = length-take most (drop from history) in
    let roster : tree.roster ≡ start.roster = ap (λ (t : Tree). t.roster) is ∙ roster_after (take from history) start in
    let part : take d.count (take most (drop from history)) ≡ take d.count (drop from history) = take_less d.count most (drop from history) (omega (arith, few, size)) in
    let more : AreOfHistory tree (take d.count (drop from history)) (states_at view now) d.steps = subst (λ (l : List Entry). AreOfHistory tree l (states_at view now) d.steps) part d.are in (
      subst (λ (l : List Entry). AreOfHistory start l (states_at view olds) (steps ++ d.steps)) (take_both from d.count history)
          (history_then view tt olds now start (take from history) (take d.count (drop from history)) steps d.steps does tree is roster none are more),
      steps_then view tt result steps d.steps olds now news does d.does,
    )

-- nothing was kept yet
pub none_kept : {S U F : Type 0} (view : S → View) (answer : Result U F) (start : Tree) (history : List Entry) (stores : List S) → OnOk answer ⊥ → KeepsHistory view answer start history stores stores
none_kept view answer start history stores failed = record {
  count = 0;
  within = omega arith;
  all = on_ok_then answer ⊥ (0 ≡ length history) (λ never. absurd never) failed;
  steps = [];
  are = no_history start (states_at view stores);
  does = steps_none view answer stores;
}
