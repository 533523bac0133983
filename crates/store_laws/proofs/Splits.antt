-- A history that may happen, cut at its first move.
use Rattle.store_laws.proofs.Whole.{limited}
use Rattle.std.proofs.Common.{◌≡◌, ℕ, zero, suc, ◌+◌, ◌==◌, Bool, true, false, not, List, [], ◌∷◌, ◌++◌, take, drop, Option, Some, None, refl, sym, ap, ◌∙◌, subst, arith}
use Rattle.std.specs.Prelude.{if◌then◌else◌, slice_get}
use Rattle.std.specs.List.{list_all}
use Rattle.base_types.specs.declared.ids.Fid.{Fid}
use Rattle.base_types.specs.declared.ids.FilesetId.{FilesetId}
use Rattle.base_types.specs.declared.ids.HostId.{HostId}
use Rattle.base_types.specs.declared.ids.ServerId.{ServerId}
use Rattle.tree_calls.specs.declared.call.Call.{Call as CallOf}
use Rattle.tree_calls.specs.declared.call.Call.TheVariants.{MoveFileset}
use Rattle.tree_calls.specs.declared.entry.Entry.{Entry}
use Rattle.tree_calls.specs.declared.entry.Entry.TheVariants.{Call as Called, Stored, Down, Left}
use Rattle.tree_calls.specs.declared.reply.Reply.{Reply}
use Rattle.tree_calls.specs.declared.reply.Reply.TheVariants.{Ok as Accepted}
use Rattle.tree_calls.specs.declared.roster.Roster.{Roster}
use Rattle.tree_filesets.specs.declared.fileset.Fileset.{Fileset}
use Rattle.tree_objects.proofs.Observed.{and_left, and_right}
use Rattle.tree_objects.proofs.Rising.{and_both}
use Rattle.tree_saving.proofs.Histories.{after_append}
use Rattle.tree_answers.specs.declared.tree.Tree.{Tree}
use Rattle.tree_answers.specs.Answers.{answer_to}
use Rattle.tree_answers.specs.Away.{is_room_kept}
use Rattle.tree_answers.specs.Histories.{IsHistory, after_entry, after_history}
use Rattle.tree_answers.specs.Moving.{left_tree}
use Rattle.tree_answers.specs.WellFormed.{IsWellFormed, is_limited}
use Rattle.tree_answers.proofs.Kept.{formed_entry}
use Rattle.tree_answers.proofs.Moves.{moves_are_whole}
use Rattle.message_types.specs.Soundness.{Each}
use Rattle.store_laws.specs.KeptMoves.{Moves, after_move}
use Rattle.store_laws.proofs.Keys.{equal_keys, same_key}
use Rattle.store_laws.proofs.Moved.{moving_so}
use Rattle.store_laws.specs.HistoryLaws.{Happens, IsGiven}
use Rattle.store_laws.specs.Shape.{
  are_numbered,
  has_number,
  is_due,
  moves_none,
  next_number,
  number_after,
  rests,
  stores_stand,
  written_by,
}
use Rattle.store_laws.specs.Happening.{MayHappen, has_moved, lefts_stand, rooms_free}
use Rattle.store_laws.specs.MovedLaws.{HistoriesSplit, SplitsAt, move_entry, moves_one}
use Rattle.store_laws.proofs.Pieces.{roster_after}
use Rattle.store_laws.proofs.Rooms.{kept_is, quiet_call, rooms_after, rooms_moved}

-- two parts of a history
each_parts : {X : Type 0} (P : X → Type 0) (xs ys : List X) → Each P (xs ++ ys) → Each P xs × Each P ys
each_parts P [] ys h = (tt, h)
each_parts P (x ∷ xs) ys h = let (first, second) = each_parts P xs ys h.1 in ((h.0, first), second)

history_parts : (tree : Tree) (xs ys : List Entry) → IsHistory tree (xs ++ ys) →
    IsHistory tree xs × IsHistory (after_history tree xs) ys
history_parts tree [] ys h = (tt, h)
history_parts tree (x ∷ xs) ys h =
    let (first, second) = history_parts (after_entry tree x) xs ys h.1 in ((h.0, first), second)

pub number_append : (host : HostId) (k : ℕ) (xs ys : List Entry) →
    number_after host k (xs ++ ys) ≡ number_after host (number_after host k xs) ys
number_append host k [] ys = refl
number_append host k (x ∷ xs) ys = number_append host (next_number host k x) xs ys

numbered_parts : (host : HostId) (k : ℕ) (xs ys : List Entry) → are_numbered host k (xs ++ ys) ≡ true →
    (are_numbered host k xs ≡ true) × (are_numbered host (number_after host k xs) ys ≡ true)
numbered_parts host k [] ys h = (refl, h)
numbered_parts host k (x ∷ xs) ys h =
    let (first, second) = numbered_parts host (next_number host k x) xs ys (and_right (has_number host k x) _ h) in
    (and_both _ _ (and_left (has_number host k x) _ h) first, second)

-- hosts store at once, up to a call and behind it
record Stands (wrote : Option (HostId × Fid)) (tree : Tree) (xs : List Entry) (entry : Entry) (ys : List Entry) : Type 0
  where
    front : stores_stand wrote tree xs ≡ true
    back : stores_stand (written_by (after_history tree xs) entry) (after_entry (after_history tree xs) entry) ys ≡ true

stands_parts : (host : HostId) (k : ℕ) (call : CallOf) (reply : Reply) (ys xs : List Entry)
    (wrote : Option (HostId × Fid)) (tree : Tree) →
    stores_stand wrote tree (xs ++ Called host k call reply ∷ ys) ≡ true →
    Stands wrote tree xs (Called host k call reply) ys
stands_parts host k call reply ys [] wrote tree h =
    record { front = and_left (rests tree) _ h; back = and_right (rests tree) _ h }
stands_parts host k call reply ys (Stored by fid spans len ∷ xs) wrote tree h =
    let rest = stands_parts host k call reply ys xs None (after_entry tree (Stored by fid spans len))
    (and_right (is_due wrote by fid) _ h) in
    record { front = and_both _ _ (and_left (is_due wrote by fid) _ h) rest.front; back = rest.back }
stands_parts host k call reply ys (Called by n other answer ∷ xs) wrote tree h =
    let rest = stands_parts host k call reply ys xs (written_by tree (Called by n other answer))
    (after_entry tree (Called by n other answer)) (and_right (rests tree) _ h) in
    record { front = and_both _ _ (and_left (rests tree) _ h) rest.front; back = rest.back }
stands_parts host k call reply ys (Down by server ∷ xs) wrote tree h =
    let rest = stands_parts host k call reply ys xs (written_by tree (Down by server))
    (after_entry tree (Down by server)) (and_right (rests tree) _ h) in
    record { front = and_both _ _ (and_left (rests tree) _ h) rest.front; back = rest.back }
stands_parts host k call reply ys (Left server id ∷ xs) wrote tree h =
    let rest = stands_parts host k call reply ys xs (written_by tree (Left server id))
    (after_entry tree (Left server id)) (and_right (rests tree) _ h) in
    record { front = and_both _ _ (and_left (rests tree) _ h) rest.front; back = rest.back }

first_rests : (tree : Tree) (entries : List Entry) → stores_stand None tree entries ≡ true → rests tree ≡ true
first_rests tree [] h = h
first_rests tree (Stored host fid spans len ∷ entries) h = absurd (cc)
first_rests tree (Called host k call reply ∷ entries) h = and_left (rests tree) _ h
first_rests tree (Down host server ∷ entries) h = and_left (rests tree) _ h
first_rests tree (Left server id ∷ entries) h = and_left (rests tree) _ h

not_so : (b : Bool) → not b ≡ true → b ≡ false
not_so true h = absurd (cc)
not_so false h = refl

-- up to the first move no server learns that a fileset arrived
record Quiet (xs ys : List Entry) : Type 0 where
  stays : list_all moves_none xs ≡ true
  lefts : lefts_stand false ys ≡ true

quiet_parts : (xs ys : List Entry) → lefts_stand false (xs ++ ys) ≡ true →
    list_all (λ entry. not (moves_one entry)) xs ≡ true → Quiet xs ys
quiet_parts [] ys h k = record { stays = refl; lefts = h }
quiet_parts (Called host n call reply ∷ xs) ys h k =
    let none = not_so (has_moved call reply) (and_left (not (has_moved call reply)) _ k) in
    let rest = quiet_parts xs ys (sym (ap (λ b. lefts_stand b (xs ++ ys)) none) ∙ h)
    (and_right (not (has_moved call reply)) _ k) in
    record { stays = and_both _ _ (quiet_call host n call reply none) rest.stays; lefts = rest.lefts }
quiet_parts (Stored host fid spans len ∷ xs) ys h k =
    let rest = quiet_parts xs ys h k in record { stays = rest.stays; lefts = rest.lefts }
quiet_parts (Down host server ∷ xs) ys h k =
    let rest = quiet_parts xs ys h k in record { stays = rest.stays; lefts = rest.lefts }
quiet_parts (Left server id ∷ xs) ys h k = absurd (cc)

end_of_list : {X : Type 0} (xs : List X) → xs ++ [] ≡ xs
end_of_list [] = refl
end_of_list (x ∷ xs) = ap (λ ys. x ∷ ys) (end_of_list xs)

pub formed_after : (roster : Roster) (tree : Tree) (entries : List Entry) → IsWellFormed tree → IsHistory tree entries →
    Each (IsGiven roster) entries → IsWellFormed (after_history tree entries)
formed_after roster tree [] w h g = w
formed_after roster tree (entry ∷ entries) w h g =
    formed_after roster (after_entry tree entry) entries
    (formed_entry tree entry w h.0 (limited roster entry g.0)) h.1 g.1

-- a history without moves
whole : (next : HostId → ℕ) (start : Tree) (history : List Entry) → MayHappen next start history →
    list_all (λ entry. not (moves_one entry)) history ≡ true → Happens next start history
whole next start history h none = record {
  formed = h.formed;
  rest = h.rest;
  legal = h.legal;
  stores = h.stores;
  numbered = h.numbered;
  given = h.given;
  stays = (quiet_parts history [] (ap (lefts_stand false) (end_of_list history) ∙ h.lefts) none).stays;
}

number_is : (n : ℕ) (host : HostId) (k : ℕ) (call : CallOf) (reply : Reply) →
    has_number host n (Called host k call reply) ≡ true → k ≡ n
number_is n host k call reply h =
    equal_keys k n (sym (ap (λ b. if b then k == n else true) (same_key host.0)) ∙ h)

-- what is directly behind a move
record Behind (rest : List Entry) : Type 0 where
  server : ServerId
  id : FilesetId
  entries : List Entry
  is : rest ≡ Left server id ∷ entries
  lefts : lefts_stand false entries ≡ true

behind_move : (rest : List Entry) → lefts_stand true rest ≡ true → Behind rest
behind_move [] h = absurd (cc)
behind_move (Left server id ∷ entries) h =
    record { server = server; id = id; entries = entries; is = refl; lefts = h }
behind_move (Called host k call reply ∷ entries) h = absurd (cc)
behind_move (Stored host fid spans len ∷ entries) h = absurd (cc)
behind_move (Down host server ∷ entries) h = absurd (cc)

-- the cut, where what is behind the move is known
cut : (next : HostId → ℕ) (start : Tree) (before : List Entry) (host : HostId) (k : ℕ) (server : ServerId)
    (name : List ℕ) (to : ServerId) (fileset : Fileset) (behind : List Entry) →
    MayHappen next start (before ++ move_entry host k server name to ∷ Left fileset.server fileset.id ∷ behind) →
    list_all (λ entry. not (moves_one entry)) before ≡ true →
    Moves (after_history start before) host server name to fileset →
    SplitsAt next start before host k server name to (Left fileset.server fileset.id ∷ behind)
cut next start before host k server name to fileset behind h none moves =
    let entry = move_entry host k server name to in
    let left = Left fileset.server fileset.id in
    let rest = left ∷ behind in
    let tree = after_history start before in
    let middle = after_entry tree entry in
    let last = after_move tree host server name to fileset in
    let legal = history_parts start before (entry ∷ rest) h.legal in
    let given = each_parts (IsGiven start.roster) before (entry ∷ rest) h.given in
    let quiet = quiet_parts before (entry ∷ rest) h.lefts none in
    let stands = stands_parts host k (MoveFileset server name to) Accepted rest before None start h.stores in
    let behind_stands : stores_stand None last behind ≡ true = and_right (rests middle) _ stands.back in
    let formed : IsWellFormed tree = formed_after start.roster start before h.formed legal.0 given.0 in
    let formed_middle : IsWellFormed middle =
    formed_entry tree entry formed legal.1.0 (limited start.roster entry given.1.0) in
    let formed_last : IsWellFormed last =
    formed_entry middle left formed_middle legal.1.1.0 (limited start.roster left given.1.1.0) in
    let moving = moving_so tree host server name to fileset moves in
    let rooms : rooms_free tree ≡ true = rooms_after start before legal.0 quiet.stays h.rooms in
    let numbers = λ (any : HostId). numbered_parts any (next any) before (entry ∷ rest) (h.numbered any) in
    let roster : last.roster ≡ start.roster = roster_after tree (entry ∷ left ∷ []) ∙ roster_after start before in
    record {
      happens = record {
        formed = h.formed;
        rest = h.rest;
        legal = legal.0;
        stores = stands.front;
        numbered = λ any. (numbers any).0;
        given = given.0;
        stays = quiet.stays;
      };
      formed = formed;
      given = given.1.0;
      number = number_is (number_after host (next host) before) host k (MoveFileset server name to) Accepted
          (and_left _ _ (numbers host).1);
      fileset = fileset;
      moves = moves;
      behind = behind;
      left = refl;
      may = record {
        formed = formed_last;
        rest = first_rests last behind behind_stands;
        rooms = ap (λ t. rooms_free (left_tree t fileset.server fileset.id)) moving.answer
            ∙ rooms_moved tree moving.place fileset to rooms;
        legal = legal.1.1.1;
        stores = behind_stands;
        numbered = λ any. and_right (has_number any (number_after any (next any) before) entry) _ (numbers any).1;
        given = subst (λ r. Each (IsGiven r) behind) (sym roster) given.1.1.1;
        lefts = quiet.lefts;
      };
      tree = after_append start before (entry ∷ rest);
      numbers = λ any. number_append any (next any) before (entry ∷ rest);
    }

parts : (next : HostId → ℕ) (start : Tree) (before : List Entry) (host : HostId) (k : ℕ) (server : ServerId)
    (name : List ℕ) (to : ServerId) (rest : List Entry) →
    MayHappen next start (before ++ move_entry host k server name to ∷ rest) →
    list_all (λ entry. not (moves_one entry)) before ≡ true → SplitsAt next start before host k server name to rest
parts next start before host k server name to rest h none =
    let entry = move_entry host k server name to in
    let tree = after_history start before in
    let legal = history_parts start before (entry ∷ rest) h.legal in
    let given = each_parts (IsGiven start.roster) before (entry ∷ rest) h.given in
    let quiet = quiet_parts before (entry ∷ rest) h.lefts none in
    let formed : IsWellFormed tree = formed_after start.roster start before h.formed legal.0 given.0 in
    let accepted : (answer_to tree host (MoveFileset server name to)).reply ≡ Accepted = sym legal.1.0 in
    let (fileset, led, after) = moves_are_whole.led tree host server name to formed accepted in
    let moves : Moves tree host server name to fileset = record { led = led; accepted = accepted } in
    let moving = moving_so tree host server name to fileset moves in
    let rooms : rooms_free tree ≡ true = rooms_after start before legal.0 quiet.stays h.rooms in
    let b = behind_move rest quiet.lefts in
    let kept : is_room_kept (answer_to tree host (MoveFileset server name to)).tree.away b.server b.id ≡ true =
    (subst (λ es. IsHistory (answer_to tree host (MoveFileset server name to)).tree es) b.is legal.1.1).0 in
    let its = kept_is tree moving.place fileset to b.server b.id rooms
    (sym (ap (λ (t : Tree). is_room_kept t.away b.server b.id) moving.answer) ∙ kept) in
    let is : rest ≡ Left fileset.server fileset.id ∷ b.entries =
    b.is ∙ ap (λ s. Left s b.id ∷ b.entries) (sym its.0)
    ∙ ap (λ i. Left fileset.server i ∷ b.entries) (sym its.1) in
    subst (λ es. SplitsAt next start before host k server name to es) (sym is)
    (cut next start before host k server name to fileset b.entries
    (subst (λ es. MayHappen next start (before ++ entry ∷ es)) is h) none moves)

pub histories_split : HistoriesSplit
histories_split = record { whole = whole; parts = parts }

-- the place of the move
pub cut_at : {X : Type 0} (xs : List X) (at : ℕ) (x : X) → slice_get xs at ≡ Some x →
    xs ≡ take at xs ++ x ∷ drop (at + 1) xs
cut_at [] at x e = absurd (cc)
cut_at (y ∷ xs) zero x e = let same : y ≡ x = cc in ap (λ z. z ∷ xs) same
cut_at (y ∷ xs) (suc at) x e =
    let more : suc at + 1 ≡ suc (at + 1) = omega arith in
    ap (λ zs. y ∷ zs) (cut_at xs at x e)
    ∙ ap (λ n. y ∷ take at xs ++ x ∷ drop n (y ∷ xs)) (sym more)

pub splits_there : (next : HostId → ℕ) (start : Tree) (history : List Entry) (place : ℕ) (host : HostId) (k : ℕ)
    (server : ServerId) (name : List ℕ) (to : ServerId) → MayHappen next start history →
    slice_get history place ≡ Some (move_entry host k server name to) →
    list_all (λ entry. not (moves_one entry)) (take place history) ≡ true →
    SplitsAt next start (take place history) host k server name to (drop (place + 1) history)
splits_there next start history place host k server name to h e none =
    parts next start (take place history) host k server name to (drop (place + 1) history)
    (subst (MayHappen next start) (cut_at history place (move_entry host k server name to) e) h) none
