-- Histories that are cut at a move.
use Rattle.store_laws.proofs.Splits.{number_append}
use Rattle.std.proofs.Common.{◌≡◌, ◌≤◌, ◌<◌, ◌+◌, ℕ, zero, suc, Bool, true, false, cond, List, [], ◌∷◌, ◌++◌, length, take, drop, Some, None, refl, sym, ap, ◌∙◌, subst, arith}
use Rattle.std.specs.Prelude.{◌&&◌, nat_lt, not, slice_get}
use Rattle.std.proofs.lemmas.Bool.{ltb-false, ltb-true}
use Rattle.std.specs.List.{list_all, position, position_or_len}
use Rattle.std.proofs.lemmas.List.{take-append-drop}
use Rattle.base_types.specs.declared.ids.HostId.{HostId}
use Rattle.base_types.specs.declared.ids.ServerId.{ServerId}
use Rattle.tree_calls.specs.declared.call.Call.{Call}
use Rattle.tree_calls.specs.declared.call.Call.TheVariants.{
  NewFileset,
  Create,
  MakeDir,
  Remove,
  Rename,
  Truncate,
  SetAcl,
  CloneFileset,
  Read,
  Write,
  List as ListNames,
  Stat,
  GetAcl,
  Sync,
  Lock,
  Unlock,
  OpenFile,
  CloseFile,
  MoveFileset,
}
use Rattle.tree_calls.specs.declared.entry.Entry.{Entry}
use Rattle.tree_calls.specs.declared.entry.Entry.TheVariants.{Call as Called, Stored, Down, Left}
use Rattle.tree_calls.specs.declared.reply.Reply.{Reply}
use Rattle.tree_calls.specs.declared.reply.Reply.TheVariants.{Ok as Accepted, Bytes, Names, Facts, Access, Refused}
use Rattle.tree_saving.proofs.Apart.{roster_stays}
use Rattle.tree_saving.proofs.Histories.{after_append}
use Rattle.tree_answers.specs.declared.tree.Tree.{Tree}
use Rattle.tree_answers.specs.Histories.{after_entry, after_history}
use Rattle.store_laws.specs.HistoryLaws.{Happens}
use Rattle.store_laws.specs.Shape.{next_number, number_after}
use Rattle.store_laws.specs.Happening.{MayHappen}
use Rattle.store_laws.specs.MovedLaws.{SplitsAt, move_entry, moves_one, numbers_after}
use Rattle.store_laws.specs.KeptMoves.{after_move}
use Rattle.store_laws.proofs.Splits.{histories_split}

-- the roster stays
pub roster_after : (history : List Entry) (tree : Tree) → (after_history tree history).roster ≡ tree.roster
roster_after [] tree = refl
roster_after (entry ∷ entries) tree = roster_after entries (after_entry tree entry) ∙ roster_stays tree entry

-- two parts of a history, one behind the other
pub take_both : {X : Type 0} (n m : ℕ) (xs : List X) → take (n + m) xs ≡ take n xs ++ take m (drop n xs)
take_both zero m xs = let e : zero + m ≡ m = omega arith in rw e refl
take_both (suc n) zero [] = let e : suc n + zero ≡ suc n = omega arith in rw e refl
take_both (suc n) (suc m) [] = let e : suc n + suc m ≡ suc (n + suc m) = omega arith in rw e refl
take_both (suc n) m (x ∷ xs) =
    let e : suc n + m ≡ suc (n + m) = omega arith in rw e (ap (λ ys. x ∷ ys) (take_both n m xs))

numbers_append : (next : HostId → ℕ) (xs ys : List Entry) →
    numbers_after next (xs ++ ys) ≡ numbers_after (numbers_after next xs) ys
numbers_append next xs ys = λ i host. number_append host (next host) xs ys i

pub numbers_both : (next : HostId → ℕ) (n m : ℕ) (xs : List Entry) →
    numbers_after next (take (n + m) xs) ≡ numbers_after (numbers_after next (take n xs)) (take m (drop n xs))
numbers_both next n m xs =
    ap (numbers_after next) (take_both n m xs) ∙ numbers_append next (take n xs) (take m (drop n xs))

pub after_both : (tree : Tree) (n m : ℕ) (xs : List Entry) →
    after_history tree (take (n + m) xs) ≡ after_history (after_history tree (take n xs)) (take m (drop n xs))
after_both tree n m xs =
    ap (after_history tree) (take_both n m xs) ∙ after_append tree (take n xs) (take m (drop n xs))

pub numbers_all : (next : HostId → ℕ) (n : ℕ) (xs : List Entry) →
    numbers_after (numbers_after next (take n xs)) (drop n xs) ≡ numbers_after next xs
numbers_all next n xs =
    sym (numbers_append next (take n xs) (drop n xs)) ∙ ap (numbers_after next) (take-append-drop n xs)

pub after_all : (tree : Tree) (n : ℕ) (xs : List Entry) →
    after_history (after_history tree (take n xs)) (drop n xs) ≡ after_history tree xs
after_all tree n xs =
    sym (after_append tree (take n xs) (drop n xs)) ∙ ap (after_history tree) (take-append-drop n xs)

-- an entry that moved a fileset
pub record IsMoveEntry (entry : Entry) : Type 0 where
  pub host : HostId
  pub k : ℕ
  pub server : ServerId
  pub name : List ℕ
  pub to : ServerId
  pub is : entry ≡ move_entry host k server name to

moved_by : (host : HostId) (k : ℕ) (call : Call) (reply : Reply) → moves_one (Called host k call reply) ≡ true →
    IsMoveEntry (Called host k call reply)
moved_by host k (MoveFileset server name to) Accepted h =
    record { host = host; k = k; server = server; name = name; to = to; is = refl }
moved_by host k (MoveFileset server name to) (Bytes bytes) h = absurd (cc)
moved_by host k (MoveFileset server name to) (Names names) h = absurd (cc)
moved_by host k (MoveFileset server name to) (Facts facts) h = absurd (cc)
moved_by host k (MoveFileset server name to) (Access list) h = absurd (cc)
moved_by host k (MoveFileset server name to) (Refused refusal) h = absurd (cc)
moved_by host k (NewFileset at name objects owner) reply h = absurd (cc)
moved_by host k (CloneFileset at source new) reply h = absurd (cc)
moved_by host k (Create place) reply h = absurd (cc)
moved_by host k (MakeDir place) reply h = absurd (cc)
moved_by host k (Remove place) reply h = absurd (cc)
moved_by host k (Rename from to) reply h = absurd (cc)
moved_by host k (Truncate place len) reply h = absurd (cc)
moved_by host k (SetAcl place which list) reply h = absurd (cc)
moved_by host k (Read place from len) reply h = absurd (cc)
moved_by host k (Write place from bytes) reply h = absurd (cc)
moved_by host k (ListNames place) reply h = absurd (cc)
moved_by host k (Stat place) reply h = absurd (cc)
moved_by host k (GetAcl place which) reply h = absurd (cc)
moved_by host k (Sync place) reply h = absurd (cc)
moved_by host k (Lock label place writing from len) reply h = absurd (cc)
moved_by host k (Unlock label) reply h = absurd (cc)
moved_by host k (OpenFile label place kind) reply h = absurd (cc)
moved_by host k (CloseFile label) reply h = absurd (cc)

is_move_entry : (entry : Entry) → moves_one entry ≡ true → IsMoveEntry entry
is_move_entry (Called host k call reply) h = moved_by host k call reply h
is_move_entry (Stored host fid spans len) h = absurd (cc)
is_move_entry (Down host at) h = absurd (cc)
is_move_entry (Left at id) h = absurd (cc)

pub same_move : (host other : HostId) (k n : ℕ) (call : Call) (reply : Reply) (server : ServerId) (name : List ℕ)
    (to : ServerId) → Called host k call reply ≡ move_entry other n server name to →
    (host ≡ other) × (k ≡ n) × (call ≡ MoveFileset server name to)
same_move host other k n call reply server name to e = (cc, cc, cc)

pub same_call : (server other : ServerId) (name again : List ℕ) (to there : ServerId) →
    MoveFileset server name to ≡ MoveFileset other again there → (server ≡ other) × (name ≡ again) × (to ≡ there)
same_call server other name again to there e = (cc, cc, cc)

-- what holds of a move holds of the same one
pub along : (P : HostId → ℕ → ServerId → List ℕ → ServerId → Type 0) (host other : HostId) (k n : ℕ)
    (server at : ServerId) (name again : List ℕ) (to there : ServerId) → host ≡ other → k ≡ n → server ≡ at →
    name ≡ again → to ≡ there → P host k server name to → P other n at again there
along P host other k n server at name again to there a b c d e p =
    subst (λ x. P x n at again there) a
    (subst (λ x. P host x at again there) b
    (subst (λ x. P host k x again there) c
    (subst (λ x. P host k server x there) d (subst (λ x. P host k server name x) e p))))

-- a list that is cut at the first element that passes a test
record IsCutAt {X : Type 0} (test : X → Bool) (xs : List X) (place : ℕ) : Type 0 where
  one : X
  rest : List X
  passes : test one ≡ true
  whole : xs ≡ take place xs ++ one ∷ rest
  size : length (take place xs) ≡ place
  before : list_all (λ x. not (test x)) (take place xs) ≡ true

cut_at : {X : Type 0} (test : X → Bool) (xs : List X) → position_or_len test xs < length xs →
    IsCutAt test xs (position_or_len test xs)
cut_at test [] h = absurd (omega (arith, h))
cut_at test (x ∷ xs) h = by (test x) refl (cut_at test xs) h
  where
    by : (b : Bool) → test x ≡ b →
        (position_or_len test xs < length xs → IsCutAt test xs (position_or_len test xs)) →
        cond (not b) (1 + position_or_len test xs) 0 < suc (length xs) →
        IsCutAt test (x ∷ xs) (cond (not b) (1 + position_or_len test xs) 0)
    by true e cut h = record { one = x; rest = xs; passes = e; whole = refl; size = refl; before = refl }
    by false e cut h =
        let n : suc (position_or_len test xs) ≡ 1 + position_or_len test xs = omega arith in
        let rec = cut (omega (arith, h)) in
        subst (IsCutAt test (x ∷ xs)) n (record {
          one = rec.one;
          rest = rec.rest;
          passes = rec.passes;
          whole = ap (λ ys. x ∷ ys) rec.whole;
          size = ap suc rec.size;
          before =
              ap (λ b. not b && list_all (λ y. not (test y)) (take (position_or_len test xs) xs)) e ∙ rec.before;
        })

none_at : {X : Type 0} (test : X → Bool) (xs : List X) → length xs ≤ position_or_len test xs →
    list_all (λ x. not (test x)) xs ≡ true
none_at test [] h = refl
none_at test (x ∷ xs) h = by (test x) refl (none_at test xs) h
  where
    by : (b : Bool) → test x ≡ b →
        (length xs ≤ position_or_len test xs → list_all (λ y. not (test y)) xs ≡ true) →
        suc (length xs) ≤ cond (not b) (1 + position_or_len test xs) 0 →
        list_all (λ y. not (test y)) (x ∷ xs) ≡ true
    by true e none h = absurd (omega (arith, h))
    by false e none h = ap (λ b. not b && list_all (λ y. not (test y)) xs) e ∙ none (omega (arith, h))

first_cut : {X : Type 0} (test : X → Bool) (xs : List X) (place : ℕ) → position test xs ≡ Some place →
    IsCutAt test xs place
first_cut test xs place e = by (nat_lt (position_or_len test xs) (length xs)) refl e
  where
    by : (b : Bool) → nat_lt (position_or_len test xs) (length xs) ≡ b →
        cond b (Some (position_or_len test xs)) None ≡ Some place → IsCutAt test xs place
    by true lt e =
        let same : position_or_len test xs ≡ place = cc in
        subst (IsCutAt test xs) same (cut_at test xs (ltb-true (position_or_len test xs) (length xs) lt))
    by false lt e = absurd (cc)

none_passes : {X : Type 0} (test : X → Bool) (xs : List X) → position test xs ≡ None →
    list_all (λ x. not (test x)) xs ≡ true
none_passes test xs e = by (nat_lt (position_or_len test xs) (length xs)) refl e
  where
    by : (b : Bool) → nat_lt (position_or_len test xs) (length xs) ≡ b →
        cond b (Some (position_or_len test xs)) None ≡ None → list_all (λ x. not (test x)) xs ≡ true
    by true lt e = absurd (cc)
    by false lt e = none_at test xs (ltb-false (position_or_len test xs) (length xs) lt)

-- a history without a move
pub moves_nothing : (next : HostId → ℕ) (tree : Tree) (history : List Entry) → MayHappen next tree history →
    position moves_one history ≡ None → Happens next tree history
moves_nothing next tree history may e = histories_split.whole next tree history may (none_passes moves_one history e)

-- a history that is cut at its first move
pub record MovesAt (next : HostId → ℕ) (tree : Tree) (history : List Entry) (place : ℕ) : Type 0 where
  pub host : HostId
  pub k : ℕ
  pub server : ServerId
  pub name : List ℕ
  pub to : ServerId
  pub rest : List Entry
  pub whole : history ≡ take place history ++ move_entry host k server name to ∷ rest
  pub size : length (take place history) ≡ place
  pub splits : SplitsAt next tree (take place history) host k server name to rest

pub moves_at : (next : HostId → ℕ) (tree : Tree) (history : List Entry) (place : ℕ) → MayHappen next tree history →
    position moves_one history ≡ Some place → MovesAt next tree history place
moves_at next tree history place may e =
    let cut = first_cut moves_one history place e in
    let move = is_move_entry cut.one cut.passes in
    let whole : history ≡ take place history ++ move_entry move.host move.k move.server move.name move.to ∷ cut.rest =
    cut.whole ∙ ap (λ entry. take place history ++ entry ∷ cut.rest) move.is in
    record {
      host = move.host;
      k = move.k;
      server = move.server;
      name = move.name;
      to = move.to;
      rest = cut.rest;
      whole = whole;
      size = cut.size;
      splits = histories_split.parts next tree (take place history) move.host move.k move.server move.name move.to
          cut.rest (subst (MayHappen next tree) whole may) cut.before;
    }

-- two elements of a list
pub record HasTwo (xs : List Entry) (place : ℕ) (a b : Entry) (behind : List Entry) : Type 0 where
  pub within : place + 2 ≤ length xs
  pub both : take 2 (drop place xs) ≡ a ∷ b ∷ []
  pub after : drop (place + 2) xs ≡ behind
  pub first : slice_get xs place ≡ Some a

two_behind : (before : List Entry) (a b : Entry) (behind : List Entry) →
    HasTwo (before ++ a ∷ b ∷ behind) (length before) a b behind
two_behind [] a b behind = record { within = omega arith; both = refl; after = refl; first = refl }
two_behind (x ∷ before) a b behind =
    let rec = two_behind before a b behind in
    let n : suc (length before + 2) ≡ suc (length before) + 2 = omega arith in
    record {
      within = (let low = rec.within in omega (arith, low));
      both = rec.both;
      after = ap (λ i. drop i (x ∷ (before ++ a ∷ b ∷ behind))) (sym n) ∙ rec.after;
      first = rec.first;
    }

-- behind it its server learns that the fileset has arrived
pub has_two : (next : HostId → ℕ) (tree : Tree) (history : List Entry) (place : ℕ) →
    (m : MovesAt next tree history place) →
    HasTwo history place (move_entry m.host m.k m.server m.name m.to)
    (Left m.splits.fileset.server m.splits.fileset.id) m.splits.behind
has_two next tree history place m =
    let move = move_entry m.host m.k m.server m.name m.to in
    let left = Left m.splits.fileset.server m.splits.fileset.id in
    let whole : history ≡ take place history ++ move ∷ left ∷ m.splits.behind =
    m.whole ∙ ap (λ rest. take place history ++ move ∷ rest) m.splits.left in
    subst (λ n. HasTwo history n move left m.splits.behind) m.size
    (subst (λ xs. HasTwo xs (length (take place history)) move left m.splits.behind) (sym whole)
    (two_behind (take place history) move left m.splits.behind))

-- where it ends
pub ends_at : (next : HostId → ℕ) (tree : Tree) (history : List Entry) (place : ℕ) →
    (m : MovesAt next tree history place) →
    after_history tree (take (place + 2) history)
    ≡ after_move (after_history tree (take place history)) m.host m.server m.name m.to m.splits.fileset
ends_at next tree history place m =
    after_both tree place 2 history
    ∙ ap (after_history (after_history tree (take place history))) (has_two next tree history place m).both

pub numbers_at : (next : HostId → ℕ) (tree : Tree) (history : List Entry) (place : ℕ) →
    (m : MovesAt next tree history place) →
    numbers_after next (take (place + 2) history)
    ≡ numbers_after (numbers_after next (take place history)) (move_entry m.host m.k m.server m.name m.to ∷ [])
numbers_at next tree history place m =
    numbers_both next place 2 history
    ∙ ap (numbers_after (numbers_after next (take place history))) (has_two next tree history place m).both

-- and goes on
pub may_go_on : (next : HostId → ℕ) (tree : Tree) (history : List Entry) (place : ℕ) → MayHappen next tree history →
    position moves_one history ≡ Some place →
    MayHappen (numbers_after next (take (place + 2) history)) (after_history tree (take (place + 2) history))
    (drop (place + 2) history)
may_go_on next tree history place may e =
    let m = moves_at next tree history place may e in
    subst (λ n. MayHappen n (after_history tree (take (place + 2) history)) (drop (place + 2) history))
    (sym (numbers_at next tree history place m))
    (subst (λ t. MayHappen (numbers_after (numbers_after next (take place history)) (move_entry m.host m.k m.server m.name m.to ∷ [])) t (drop (place + 2) history))
    (sym (ends_at next tree history place m))
    (subst (MayHappen (numbers_after (numbers_after next (take place history)) (move_entry m.host m.k m.server m.name m.to ∷ [])) (after_move (after_history tree (take place history)) m.host m.server m.name m.to m.splits.fileset))
    (sym (has_two next tree history place m).after) m.splits.may))
