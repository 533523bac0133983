-- What a move, and the `Left` that follows it, make of a tree.
use Rattle.std.proofs.Common.{◌≡◌, ℕ, ◌==◌, Bool, true, false, ◌&&◌, not, cond, List, [], ◌∷◌, Option, Some, None, refl, sym, ap, ◌∙◌, subst, ◌+◌, arith}
use Rattle.std.specs.Prelude.{slice_set, map, filter, if◌then◌else◌, option_and_then}
use Rattle.std.specs.List.{find}
use Rattle.std.specs.Option.{option_map, option_map_or}
use Rattle.base_types.specs.Name.{same_name}
use Rattle.base_types.specs.Outcomes.{either}
use Rattle.base_types.specs.declared.ids.FilesetId.{FilesetId}
use Rattle.base_types.specs.declared.ids.HostId.{HostId}
use Rattle.base_types.specs.declared.ids.ServerId.{ServerId}
use Rattle.tree_calls.specs.declared.call.Call.TheVariants.{MoveFileset}
use Rattle.tree_calls.specs.declared.reply.Reply.TheVariants.{Ok as Accepted}
use Rattle.tree_objects.proofs.Observed.{and_left, and_right}
use Rattle.tree_filesets.specs.Founding.{moved}
use Rattle.tree_filesets.specs.declared.fileset.Fileset.{Fileset}
use Rattle.tree_answers.specs.declared.tree.Away.{Away}
use Rattle.tree_answers.specs.declared.tree.Tree.{Tree}
use Rattle.tree_answers.specs.Answers.{answer_for as tree_answer_for, answer_to as tree_answer}
use Rattle.tree_answers.specs.Away.{is_away, away_place, with_away}
use Rattle.tree_answers.specs.Finding.{Answer as TreeAnswer, refuse as tree_refuse, has_id}
use Rattle.tree_answers.specs.Moving.{left_by, left_tree, move_answer, move_target, with_moved}
use Rattle.tree_answers.specs.WellFormed.{IsWellFormed, is_elsewhere}
use Rattle.tree_answers.proofs.AfterMove.{IsMove, moved_parts}
use Rattle.tree_answers.proofs.Inserted.{find_insert}
use Rattle.tree_answers.proofs.Kept.{move_ok, named_is}
use Rattle.tree_answers.proofs.Places.{find_all, find_at_place, find_put, find_put_other}
use Rattle.store_laws.specs.TreeKeeping.{if_at, record_at, gone_from}
use Rattle.store_laws.specs.KeptMoves.{Moves}
use Rattle.store_laws.proofs.Called.{led_there, same_id}
use Rattle.store_laws.proofs.KeptFounds.{accepted_ok, user_is, find_new}
use Rattle.store_laws.proofs.Keys.{found_passes, same_key, equal_keys, keys_sym}
use Rattle.store_laws.proofs.KeptSteps.{SameAt, same_found}

-- the fileset that moves
pub record IsMoving (tree : Tree) (host : HostId) (server : ServerId) (name : List ℕ) (to : ServerId)
    (fileset : Fileset) : Type 0 where
  pub place : ℕ
  pub is : IsMove tree place fileset to
  pub answer : (tree_answer tree host (MoveFileset server name to)).tree ≡ with_moved tree place fileset to

pub moving_so : (tree : Tree) (host : HostId) (server : ServerId) (name : List ℕ) (to : ServerId) (fileset : Fileset) →
    Moves tree host server name to fileset → IsMoving tree host server name to fileset
unfolding tree_answer_for move_answer
moving_so tree host server name to fileset m =
    let (user, one, told) = user_is tree host (MoveFileset server name to) m.accepted in
    let accepted : (move_answer tree user server name to).reply ≡ Accepted =
    ap (λ (a : TreeAnswer). a.reply) (sym told) ∙ m.accepted in
    let (found, ok) = accepted_ok tree (move_target tree user server name to)
    (λ (place, fileset). with_moved tree place fileset to) accepted in
    let (placed, is) = move_ok tree user server name to found ok in
    let led = led_there tree server name found.0 found.1 placed (sym is.there) in
    let same : found.1 ≡ fileset =
    (let e : Some found.1 ≡ Some fileset = sym led ∙ named_is tree server name fileset m.led in cc) in
    let told_tree : (tree_answer tree host (MoveFileset server name to)).tree ≡ with_moved tree found.0 found.1 to =
    ap (λ (a : TreeAnswer). a.tree) told ∙ ap (λ checked. (either checked (λ (place, fileset).
    let answer : TreeAnswer = record { reply = Accepted; tree = with_moved tree place fileset to } in answer)
    (tree_refuse tree)).tree) ok in
    record {
      place = found.0;
      is = subst (λ f. IsMove tree found.0 f to) same is;
      answer = told_tree ∙ ap (λ f. with_moved tree found.0 f to) same;
    }

-- what is found in lists that are changed
pub find_mapped : {X : Type 0} (p : X → Bool) (g : X → X) → ((x : X) → p (g x) ≡ p x) → (xs : List X) →
    find p (map g xs) ≡ option_map g (find p xs)
find_mapped p g k [] = refl
find_mapped {X} p g k (x ∷ xs) =
    ap (λ t. cond t (Some (g x)) (find p (map g xs))) (k x) ∙ by (p x) (find_mapped p g k xs)
  where
    by : (b : Bool) → find p (map g xs) ≡ option_map g (find p xs) →
        cond b (Some (g x)) (find p (map g xs)) ≡ option_map g (cond b (Some x) (find p xs))
    by true e = refl
    by false e = e

find_kept : {X : Type 0} (p q : X → Bool) → ((x : X) → p x ≡ true → q x ≡ true) → (xs : List X) →
    find p (filter q xs) ≡ find p xs
find_kept p q k [] = refl
find_kept {X} p q k (x ∷ xs) = by (q x) (p x) refl refl (find_kept p q k xs)
  where
    by : (b c : Bool) → q x ≡ b → p x ≡ c → find p (filter q xs) ≡ find p xs →
        find p (cond b (x ∷ filter q xs) (filter q xs)) ≡ cond c (Some x) (find p xs)
    by true c e f rest = ap (λ t. cond t (Some x) (find p (filter q xs))) f ∙ ap (λ o. cond c (Some x) o) rest
    by false true e f rest = let wrong : false ≡ true = sym e ∙ k x f in absurd (cc)
    by false false e f rest = rest

find_dropped : {X : Type 0} (p q : X → Bool) → ((x : X) → p x ≡ true → q x ≡ false) → (xs : List X) →
    find p (filter q xs) ≡ None
find_dropped p q k [] = refl
find_dropped {X} p q k (x ∷ xs) = by (q x) (p x) refl refl (find_dropped p q k xs)
  where
    by : (b c : Bool) → q x ≡ b → p x ≡ c → find p (filter q xs) ≡ None →
        find p (cond b (x ∷ filter q xs) (filter q xs)) ≡ None
    by true true e f rest = let wrong : true ≡ false = sym e ∙ k x f in absurd (cc)
    by true false e f rest = ap (λ t. cond t (Some x) (find p (filter q xs))) f ∙ rest
    by false c e f rest = rest

-- the tree then
abbrev pub moved_tree : Tree → ℕ → Fileset → ServerId → Tree
moved_tree tree place fileset to = left_tree (with_moved tree place fileset to) fileset.server fileset.id

abbrev freed : ServerId → FilesetId → Away → Away
freed server id away = if is_away server id away then record away { room_kept = false } else away

pub record HasParts (tree : Tree) (place : ℕ) (fileset : Fileset) (to : ServerId) : Type 0 where
  pub roster : (moved_tree tree place fileset to).roster ≡ tree.roster
  pub servers : (moved_tree tree place fileset to).servers ≡ tree.servers
  pub filesets : (moved_tree tree place fileset to).filesets ≡ slice_set tree.filesets place (moved fileset to)
  pub away : (moved_tree tree place fileset to).away
      ≡ map (freed fileset.server fileset.id)
      (filter (λ away. not (is_away to fileset.id away)) (with_away tree.away (left_by fileset to)))

pub has_parts : (tree : Tree) (place : ℕ) (fileset : Fileset) (to : ServerId) → HasParts tree place fileset to
unfolding left_tree
has_parts tree place fileset to = record { roster = refl; servers = refl; filesets = refl; away = refl }

-- records
freed_same : (server : ServerId) (id : FilesetId) (at : ServerId) (of : FilesetId) (away : Away) →
    is_away at of (freed server id away) ≡ is_away at of away
freed_same server id at of away = by (is_away server id away)
  where
    by : (b : Bool) → is_away at of (if b then record away { room_kept = false } else away) ≡ is_away at of away
    by true = refl
    by false = refl

not_both : (b : Bool) → b ≡ false → not b ≡ true
not_both b e = ap not e

-- whether records of a server and a fileset are none of another one's
abbrev Beside : ServerId → FilesetId → ServerId → FilesetId → Type 0
Beside at of server id = (away : Away) → is_away at of away ≡ true → is_away server id away ≡ false

own_record : (fileset : Fileset) (to : ServerId) → is_away fileset.server fileset.id (left_by fileset to) ≡ true
own_record fileset to =
    ap (λ b. b && (fileset.id.0 == fileset.id.0)) (same_key fileset.server.0) ∙ same_key fileset.id.0

none_of : (p : Away → Bool) (away : Away) → (p away ≡ true → ⊥) → p away ≡ false
none_of p away k = by (p away) refl
  where
    by : (b : Bool) → p away ≡ b → b ≡ false
    by true e = absurd (k e)
    by false e = refl

record_beside : (tree : Tree) (place : ℕ) (fileset : Fileset) (to at : ServerId) (of : FilesetId) →
    Beside at of fileset.server fileset.id → Beside at of to fileset.id →
    record_at (moved_tree tree place fileset to) at of ≡ record_at tree at of
record_beside tree place fileset to at of old new =
    ap (find (is_away at of)) (has_parts tree place fileset to).away
    ∙ find_mapped (is_away at of) (freed fileset.server fileset.id)
    (freed_same fileset.server fileset.id at of) (filter (λ away. not (is_away to fileset.id away))
    (with_away tree.away (left_by fileset to)))
    ∙ ap (option_map (freed fileset.server fileset.id))
    (find_kept (is_away at of) (λ away. not (is_away to fileset.id away))
    (λ away e. not_both (is_away to fileset.id away) (new away e)) (with_away tree.away (left_by fileset to))
    ∙ find_insert (is_away at of) (left_by fileset to)
    (away_place tree.away (left_by fileset to).server (left_by fileset to).fileset) tree.away
    (none_of (is_away at of) (left_by fileset to) (λ e.
    (let wrong : true ≡ false = sym (own_record fileset to) ∙ old (left_by fileset to) e in absurd (cc)))))
    ∙ same (find (is_away at of) tree.away) refl
  where
    same : (found : Option Away) → find (is_away at of) tree.away ≡ found →
        option_map (freed fileset.server fileset.id) found ≡ found
    same None e = refl
    same (Some away) e =
        ap (λ b. Some (if b then record away { room_kept = false } else away))
        (old away (found_passes (is_away at of) tree.away away e))

-- no server has a record of a fileset that it has
own_none : (tree : Tree) (fileset : Fileset) → IsWellFormed tree → find (has_id fileset.id) tree.filesets ≡ Some fileset →
    find (is_away fileset.server fileset.id) tree.away ≡ None
own_none tree fileset w there = by (find (is_away fileset.server fileset.id) tree.away) refl
  where
    by : (found : Option Away) → find (is_away fileset.server fileset.id) tree.away ≡ found → found ≡ None
    by None e = refl
    by (Some away) e =
        let its = found_passes (is_away fileset.server fileset.id) tree.away away e in
        let server = equal_keys away.server.0 fileset.server.0
        (and_left (away.server.0 == fileset.server.0) (away.fileset.0 == fileset.id.0) its) in
        let id = same_id away.fileset fileset.id
        (and_right (away.server.0 == fileset.server.0) (away.fileset.0 == fileset.id.0) its) in
        let elsewhere : is_elsewhere tree.filesets away ≡ true =
        find_all (is_away fileset.server fileset.id) (is_elsewhere tree.filesets) tree.away away e w.away.elsewhere in
        let known : find (has_id away.fileset) tree.filesets ≡ Some fileset =
        ap (λ i. find (has_id i) tree.filesets) id ∙ there in
        let apart : not (fileset.server.0 == away.server.0) ≡ true =
        and_left (not (fileset.server.0 == away.server.0)) (same_name fileset.name away.name)
        (sym (ap (λ o. option_map_or (λ (f : Fileset).
        not (f.server.0 == away.server.0) && same_name f.name away.name) o false) known) ∙ elsewhere) in
        let same : (fileset.server.0 == away.server.0) ≡ true =
        ap (λ n. fileset.server.0 == n) server ∙ same_key fileset.server.0 in
        let wrong : false ≡ true = sym (ap not same) ∙ apart in
        absurd (cc)

beside_server : (at server : ServerId) (of id : FilesetId) → (at.0 == server.0) ≡ false → Beside at of server id
beside_server at server of id apart away e =
    let its = equal_keys away.server.0 at.0 (and_left (away.server.0 == at.0) (away.fileset.0 == of.0) e) in
    ap (λ n. (n == server.0) && (away.fileset.0 == id.0)) its ∙ ap (λ b. b && (away.fileset.0 == id.0)) apart

beside_id : (at server : ServerId) (of id : FilesetId) → (of.0 == id.0) ≡ false → Beside at of server id
beside_id at server of id apart away e =
    let its = equal_keys away.fileset.0 of.0 (and_right (away.server.0 == at.0) (away.fileset.0 == of.0) e) in
    ap (λ n. (away.server.0 == server.0) && (n == id.0)) its
    ∙ ap (λ b. (away.server.0 == server.0) && b) apart ∙ none (away.server.0 == server.0)
  where
    none : (b : Bool) → (b && false) ≡ false
    none true = refl
    none false = refl

-- the record at the server that it left
pub record_left : (tree : Tree) (place : ℕ) (fileset : Fileset) (to : ServerId) → IsWellFormed tree →
    find (has_id fileset.id) tree.filesets ≡ Some fileset → (fileset.server.0 == to.0) ≡ false →
    record_at (moved_tree tree place fileset to) fileset.server fileset.id
    ≡ Some (gone_from fileset.server fileset to)
record_left tree place fileset to w there goes =
    ap (find (is_away fileset.server fileset.id)) (has_parts tree place fileset to).away
    ∙ find_mapped (is_away fileset.server fileset.id) (freed fileset.server fileset.id)
    (freed_same fileset.server fileset.id fileset.server fileset.id)
    (filter (λ away. not (is_away to fileset.id away)) (with_away tree.away (left_by fileset to)))
    ∙ ap (option_map (freed fileset.server fileset.id))
    (find_kept (is_away fileset.server fileset.id) (λ away. not (is_away to fileset.id away))
    (λ away e. not_both (is_away to fileset.id away)
    (beside_server fileset.server to fileset.id fileset.id goes away e)) (with_away tree.away (left_by fileset to))
    ∙ find_new (is_away fileset.server fileset.id) (left_by fileset to)
    (away_place tree.away (left_by fileset to).server (left_by fileset to).fileset) tree.away
    (own_none tree fileset w there) (own_record fileset to))
    ∙ ap (λ b. Some (if b then record (left_by fileset to) { room_kept = false } else left_by fileset to))
    (own_record fileset to)

-- and none at the one that it is at
pub record_arrived : (tree : Tree) (place : ℕ) (fileset : Fileset) (to : ServerId) →
    record_at (moved_tree tree place fileset to) to fileset.id ≡ None
record_arrived tree place fileset to =
    ap (find (is_away to fileset.id)) (has_parts tree place fileset to).away
    ∙ find_mapped (is_away to fileset.id) (freed fileset.server fileset.id)
    (freed_same fileset.server fileset.id to fileset.id)
    (filter (λ away. not (is_away to fileset.id away)) (with_away tree.away (left_by fileset to)))
    ∙ ap (option_map (freed fileset.server fileset.id))
    (find_dropped (is_away to fileset.id) (λ away. not (is_away to fileset.id away)) (λ away e. ap not e)
    (with_away tree.away (left_by fileset to)))

-- filesets
pub one_more : (fileset : Fileset) (to : ServerId) → (moved fileset to).moves ≡ fileset.moves + 1
unfolding moved
one_more fileset to = refl

pub fileset_moved : (tree : Tree) (place : ℕ) (fileset : Fileset) (to : ServerId) → IsWellFormed tree →
    IsMove tree place fileset to →
    find (has_id fileset.id) (moved_tree tree place fileset to).filesets ≡ Some (moved fileset to)
fileset_moved tree place fileset to w m =
    let (id, server, name) = moved_parts fileset to in
    ap (find (has_id fileset.id)) (has_parts tree place fileset to).filesets
    ∙ find_put fileset.id tree.filesets place fileset (moved fileset to) m.there w.ordered id (same_key fileset.id.0)

pub moved_others : (tree : Tree) (place : ℕ) (fileset : Fileset) (to at : ServerId) → IsMove tree place fileset to →
    (other : FilesetId) → (other.0 == fileset.id.0) ≡ false →
    SameAt tree (moved_tree tree place fileset to) at other
moved_others tree place fileset to at m other apart =
    let (id, server, name) = moved_parts fileset to in
    record {
      fileset = ap (option_and_then (if_at at))
          (ap (find (has_id other)) (has_parts tree place fileset to).filesets
          ∙ find_put_other other tree.filesets place fileset (moved fileset to) m.there id
          (keys_sym other.0 fileset.id.0 apart));
      record_is = record_beside tree place fileset to at other
          (beside_id at fileset.server other fileset.id apart) (beside_id at to other fileset.id apart);
      moves = same_found tree (moved_tree tree place fileset to) other
          (ap (find (has_id other)) (has_parts tree place fileset to).filesets
          ∙ find_put_other other tree.filesets place fileset (moved fileset to) m.there id
          (keys_sym other.0 fileset.id.0 apart));
    }

-- other servers have the same
pub moved_elsewhere : (tree : Tree) (place : ℕ) (fileset : Fileset) (to at : ServerId) → IsWellFormed tree →
    IsMove tree place fileset to → (fileset.server.0 == at.0) ≡ false → (to.0 == at.0) ≡ false →
    (id : FilesetId) → SameAt tree (moved_tree tree place fileset to) at id
moved_elsewhere tree place fileset to at w m from goes id = by (id.0 == fileset.id.0) refl
  where
    none : (f : Fileset) (s : ServerId) → f.server ≡ s → (s.0 == at.0) ≡ false → if_at at f ≡ None
    none f s e apart = ap (λ b. if b then Some f else None) (ap (λ (x : ServerId). x.0 == at.0) e ∙ apart)

    was : find (has_id fileset.id) tree.filesets ≡ Some fileset
    was = find_at_place fileset.id tree.filesets place fileset m.there w.ordered (same_key fileset.id.0)

    same : SameAt tree (moved_tree tree place fileset to) at fileset.id
    same = record {
      fileset = ap (option_and_then (if_at at)) (fileset_moved tree place fileset to w m)
          ∙ none (moved fileset to) to (moved_parts fileset to).1 goes
          ∙ sym (ap (option_and_then (if_at at)) was ∙ none fileset fileset.server refl from);
      record_is = record_beside tree place fileset to at fileset.id
          (beside_server at fileset.server fileset.id fileset.id (keys_sym fileset.server.0 at.0 from))
          (beside_server at to fileset.id fileset.id (keys_sym to.0 at.0 goes));
      moves = λ after there. (
        fileset,
        was,
        (let its : moved fileset to ≡ after =
            (let e : Some (moved fileset to) ≡ Some after = sym (fileset_moved tree place fileset to w m) ∙ there in cc) in
            let more = sym (ap (λ (f : Fileset). f.moves) its) ∙ one_more fileset to in
            omega (arith, more)),
      );
    }

    by : (t : Bool) → (id.0 == fileset.id.0) ≡ t → SameAt tree (moved_tree tree place fileset to) at id
    by true e = subst (SameAt tree (moved_tree tree place fileset to) at) (sym (same_id id fileset.id e)) same
    by false e = moved_others tree place fileset to at m id e
