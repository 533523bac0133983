-- What is made of the tables where one want is answered, part by part.
use Rattle.std.proofs.Common.{◌≡◌, ◌+◌, ◌<◌, ℕ, true, false, List, Option, None, Some, length}
use Rattle.std.proofs.Common.{refl, sym, ◌∙◌, ap, subst}
use Rattle.std.specs.Prelude.{remove, slice_index_or, if◌then◌else◌, Bool}
use Rattle.base_types.specs.declared.ids.FilesetId.{FilesetId}
use Rattle.base_types.specs.declared.ids.HostId.{HostId}
use Rattle.base_types.specs.declared.user.User.{User}
use Rattle.tree_calls.specs.Rosters.{user_of}
use Rattle.tree_calls.specs.declared.part.DirEntry.{DirEntry}
use Rattle.tree_calls.specs.declared.part.Piece.{Piece}
use Rattle.tree_calls.specs.declared.part.Status.{Status}
use Rattle.tree_calls.specs.declared.reply.Refusal.{Refusal}
use Rattle.message_types.specs.declared.asking.Change.{Change as ChangeOf}
use Rattle.message_types.specs.declared.asking.Fetch.{Fetch as FetchOf}
use Rattle.message_types.specs.declared.message.Body.TheVariants.{Grant as IsGrant}
use Rattle.message_types.specs.declared.telling.Done.{Done as DoneOf}
use Rattle.message_types.specs.declared.telling.Grant.{Grant as GrantOf}
use Rattle.run_rules.specs.declared.applied.Request.{Request}
use Rattle.run_rules.specs.declared.applied.Request.TheVariants.{Change as Changes, Fetch as Asks}
use Rattle.store_memory.specs.Reading.{status_told}
use Rattle.store_state.specs.declared.state.StoreState.{StoreState}
use Rattle.token_types.specs.declared.token.Need.{Need}
use Rattle.token_types.specs.declared.token.Token.{Token}
use Rattle.server_says.specs.Asking.{change_needs, change_refused}
use Rattle.server_says.specs.Granting.{entries_for, pieces_for}
use Rattle.server_says.specs.Found.{Found}
use Rattle.server_tables.specs.Counting.{IsCounted}
use Rattle.server_tables.specs.Updates.{stamped, unqueued}
use Rattle.server_tables.specs.declared.pending.Pending.{Pending}
use Rattle.server_tables.specs.declared.tables.Tables.{Tables}
use Rattle.server_says.specs.Drafts.{saying, word}
use Rattle.server_says.specs.Taking.{IsMadeOf, Made, Whether, made}
use Rattle.server_says.specs.Draft.{Draft}
use Rattle.server_decides.specs.Deciding.{IsDecision, IsDueOf, IsPlaced, found_on, is_passed, is_waiting, outlook_at}
use Rattle.server_decides.specs.Sending.{IsChangeSending, IsLeftAt, IsSending, IsSendingOf, IsUsing, done_made}
use Rattle.server_decides.specs.Sending.{empty_made, grant_made, grant_of, grant_with, granted_made, granted_out}
use Rattle.server_decides.specs.Sending.{granted_tokens, granting, is_granted, use_with}
use Rattle.server_decides.specs.declared.deciding.Decision.{Decision}
use Rattle.server_decides.specs.declared.sending.Sending.{Sending}
use Rattle.server_decides.proofs.Served.{index_one}
use Rattle.std.specs.Prelude.{◌↔◌, IsTrue}
use Rattle.base_types.specs.declared.ids.ServerId.{ServerId}
use Rattle.tree_calls.specs.declared.reply.Reply.{Reply}
use Rattle.tree_calls.specs.declared.reply.Reply.TheVariants.{Refused}
use Rattle.tree_calls.specs.declared.roster.Roster.{Roster}
use Rattle.message_types.specs.Soundness.{IsCall, IsHost}
use Rattle.run_rules.specs.Wants.{is_use}
use Rattle.run_rules.specs.declared.applied.Wanted.{Wanted}
use Rattle.store_acts.specs.Acts.{act_done}
use Rattle.store_acts.specs.Sound.{HasName, IsDecided as IsDecidedCall, IsFor as IsForServer}
use Rattle.store_memory.specs.Views.{IsSameStore, View}
use Rattle.server_says.specs.Asking.{entered_told}
use Rattle.server_says.specs.Acts.{IsRepeatable, doing, refusing}
use Rattle.server_says.specs.Writing.{written_made}
use Rattle.server_says.specs.Messages.{IsStoreOf}
use Rattle.server_says.specs.Taking.{wanted_for}
use Rattle.server_decides.specs.Deciding.{HasEffect, IsDecided, IsDoing, IsMadeBy, IsRefusing, anew_made}
use Rattle.server_decides.specs.Sending.{entering_by}
use Rattle.server_decides.specs.Serving.{CameSo, IsServed}
use Rattle.server_decides.specs.declared.deciding.Due.{Due}
use Rattle.server_decides.proofs.Served.{call_asks, host_asks, may_do, served_more, served_on}

-- # The want at a place

pub at_place_is : (ps : List Pending) (at : ℕ) (q p : Pending) → q ≡ slice_index_or ps at q → IsPlaced ps at p → q ≡ p
at_place_is ps at q p e place = e ∙ index_one ps at q p place.0 ∙ place.1

pub left_out_so : (x y : Tables) (at number : ℕ) → y ≡ unqueued x at number → IsLeftAt x at y
left_out_so x y at number e = subst (IsLeftAt x at) (sym e) (record { server = refl; roster = refl; pending = refl })

-- what is changed beside the wants that wait leaves it so
pub left_beside : (x y z : Tables) (at : ℕ) → IsLeftAt x at y → z.server ≡ y.server → z.roster ≡ y.roster
    → z.pending ≡ y.pending → IsLeftAt x at z
left_beside x y z at l v r p =
    record { server = v ∙ l.server; roster = r ∙ l.roster; pending = p ∙ l.pending }

-- and what was changed before
pub left_before : (x y z : Tables) (at : ℕ) → IsLeftAt y at z → y.server ≡ x.server → y.roster ≡ x.roster
    → y.pending ≡ x.pending → IsLeftAt x at z
left_before x y z at l v r p = record {
  server = l.server ∙ v;
  roster = l.roster ∙ r;
  pending = l.pending ∙ ap (λ (ps : List Pending). remove ps at) p;
}

-- # What is made

pub made_same : (x : Tables) (d : Draft) (t : Tables) (c : Draft) (y : Tables) (e : Draft) (one other : Made)
    → one ≡ other → IsMadeOf t c y e one → IsMadeOf x d y e other
made_same x d t c y e one other same h = record {
  tables = h.tables ∙ ap (λ (m : Made). m.tables) same;
  draft = h.draft ∙ ap (λ (m : Made). m.draft) same;
}

pub done_so : (d : Draft) (t u : Tables) (h k : HostId) (o q : DoneOf) → t ≡ u → h ≡ k → o ≡ q
    → done_made t d h o ≡ done_made u d k q
done_so d t u h k o q a b c i = done_made (a i) d (b i) (c i)

-- a Grant is said
pub grant_so : (d : Draft) (t u : Tables) (h k : HostId) (g o : GrantOf) → t ≡ u → h ≡ k → g ≡ o
    → made t (saying d (word t h (IsGrant g))) ≡ made u (saying d (word u k (IsGrant o)))
grant_so d t u h k g o a b c i = made (a i) (saying d (word (a i) (b i) (IsGrant (c i))))

pub done_left : (x t : Tables) (d : Draft) (y : Tables) (e : Draft) (at : ℕ) (h : HostId) (o : DoneOf)
    → IsLeftAt x at t → IsMadeOf t d y e (done_made t d h o) → IsLeftAt x at y
done_left x t d y e at h o l m = left_beside x t y at l (ap (λ (z : Tables). z.server) m.tables)
    (ap (λ (z : Tables). z.roster) m.tables) (ap (λ (z : Tables). z.pending) m.tables)

pub done_counted : (t : Tables) (d : Draft) (y : Tables) (e : Draft) (h : HostId) (o : DoneOf) → IsCounted t
    → IsMadeOf t d y e (done_made t d h o) → IsCounted y
done_counted t d y e h o c m = subst IsCounted (sym m.tables) c

pub use_so : (fileset : FilesetId) (number a b : ℕ) (ts us : List Token) → a ≡ b → ts ≡ us
    → use_with fileset number a ts ≡ use_with fileset number b us
use_so fileset number a b ts us e f i = use_with fileset number (e i) (f i)

-- the want at a place is granted, and taken out
module _ (x t u v : Tables) (at : ℕ) (p : Pending) (a : t ≡ granting x p.number) (b : u ≡ unqueued t at p.number)
    (c : v ≡ stamped u) where
  taken_is : u ≡ unqueued (granting x p.number) at p.number
  taken_is = b ∙ ap (λ (z : Tables). unqueued z at p.number) a

  pub granted_is : v ≡ granted_out x at p.number
  granted_is = c ∙ ap (λ (z : Tables). stamped z) taken_is

  pub stamp_is : (stamp : ℕ) → stamp ≡ u.stamp + 1 → stamp ≡ x.stamp + 1
  stamp_is stamp e = e ∙ ap (λ (z : Tables). z.stamp + 1) taken_is

  pub left_granted : IsLeftAt t at u → IsLeftAt x at v
  left_granted l = left_beside x u v at (left_before x t u at l (ap (λ (z : Tables). z.server) a)
      (ap (λ (z : Tables). z.roster) a) (ap (λ (z : Tables). z.pending) a)) (ap (λ (z : Tables). z.server) c)
      (ap (λ (z : Tables). z.roster) c) (ap (λ (z : Tables). z.pending) c)

pub placed_so : (x y : Tables) (at : ℕ) (p : Pending) → y.pending ≡ x.pending → IsPlaced x.pending at p
    → IsPlaced y.pending at p
placed_so x y at p e = subst (λ (ps : List Pending). IsPlaced ps at p) (sym e)

pub brought_so : (x : Tables) (p : Pending) (fetch : FetchOf) (status : Status) (pieces : List Piece)
    (entries : List DirEntry) (stamp : ℕ) (ts : List Token) → stamp ≡ x.stamp + 1
    → ts ≡ granted_tokens x.tokens p.number
    → record {
      bring = record { number = fetch.number; fid = fetch.fid; stamp = stamp; tokens = ts };
      status = Some status;
      pieces = pieces;
      entries = entries;
    } ≡ grant_with x p fetch status pieces entries
brought_so x p fetch status pieces entries stamp ts e f i = record {
  bring = record { number = fetch.number; fid = fetch.fid; stamp = e i; tokens = f i };
  status = Some status;
  pieces = pieces;
  entries = entries;
}

pub shown_so : (x : Tables) (d : Draft) (st : StoreState) (at : ℕ) (p : Pending) (fetch : FetchOf) (status : Status)
    (pieces : List Piece) (entries : List DirEntry) → pieces ≡ pieces_for st fetch.fid status.dir fetch.needs
    → entries ≡ entries_for st fetch.fid status.dir fetch.needs
    → granted_made x d at p (grant_with x p fetch status pieces entries)
    ≡ granted_made x d at p (grant_of x st p fetch status)
shown_so x d st at p fetch status pieces entries e f i = granted_made x d at p (grant_with x p fetch status (e i) (f i))

-- the Grant by what the store tells
pub grant_told : (x : Tables) (d : Draft) (at : ℕ) (p : Pending) (fetch : FetchOf) (st later : StoreState)
    (told : Option Status) (status : Status) → later ≡ st → told ≡ status_told st fetch.fid → told ≡ Some status
    → granted_made x d at p (grant_of x later p fetch status)
    ≡ grant_made x d st at p fetch (status_told st fetch.fid)
grant_told x d at p fetch st later told status e a is =
    ap (λ (s : StoreState). granted_made x d at p (grant_of x s p fetch status)) e
    ∙ ap (grant_made x d st at p fetch) (sym is ∙ a)

pub none_told : (x : Tables) (d : Draft) (at : ℕ) (p : Pending) (fetch : FetchOf) (st : StoreState)
    (told : Option Status) → told ≡ status_told st fetch.fid → told ≡ None
    → empty_made x d at p fetch ≡ grant_made x d st at p fetch (status_told st fetch.fid)
none_told x d at p fetch st told a is = ap (grant_made x d st at p fetch) (sym is ∙ a)

-- # By cases

pub whether_yes : (b : Bool) (P Q : Type 0) → b ≡ true → P → Whether b P Q
whether_yes true P Q e p = p
whether_yes false P Q e p = absurd (cc)

pub whether_no : (b : Bool) (P Q : Type 0) → b ≡ false → Q → Whether b P Q
whether_no true P Q e q = absurd (cc)
whether_no false P Q e q = q

pub if_so : {A : Type 0} (b : Bool) (a n : A) → b ≡ true → a ≡ (if b then a else n)
if_so b a n e = ap (λ (k : Bool). if k then a else n) (sym e)

pub if_not : {A : Type 0} (b : Bool) (a n : A) → b ≡ false → n ≡ (if b then a else n)
if_not b a n e = ap (λ (k : Bool). if k then a else n) (sym e)

-- needs were compared as two slices
pub compared_is : (r : Bool) (a b u v : List Need) → (IsTrue r ↔ (a ≡ b)) → a ≡ u → b ≡ v → IsTrue r ↔ (u ≡ v)
compared_is r a b u v h e f = subst (λ (l : List Need). IsTrue r ↔ (l ≡ v)) e
    (subst (λ (l : List Need). IsTrue r ↔ (a ≡ l)) f h)

-- # What is due of a want

-- of a Fetch nothing is
pub fetch_due : (x : Tables) (st : StoreState) (p : Pending) (fresh : Bool) (r : Request)
    → ((c : ChangeOf) → r ≡ Changes c → ⊥) → IsDueOf x st p fresh None r
fetch_due x st p fresh (Asks f) never = refl
fetch_due x st p fresh (Changes c) never = absurd (never c refl)

pub passed_due : (x : Tables) (st : StoreState) (p : Pending) (fresh : Bool) (c : ChangeOf) (r : Request)
    → r ≡ Changes c → is_passed x p fresh ≡ true → IsDueOf x st p fresh None r
passed_due x st p fresh c r is e =
    subst (IsDueOf x st p fresh None) (sym is) (whether_yes (is_passed x p fresh) _ _ e refl)

found_is : (st : StoreState) (user : User) (host : HostId) (c : ChangeOf) (found : Found)
    → found.refusal ≡ change_refused st host user c → found.needs ≡ change_needs st host user c
    → found ≡ found_on st user host c
found_is st user host c found a b i = record { refusal = a i; needs = b i }

pub looked_due : (x : Tables) (st : StoreState) (p : Pending) (fresh : Bool) (c : ChangeOf) (r : Request)
    (found : Found) (due : Option Decision) → r ≡ Changes c → is_passed x p fresh ≡ false
    → ((user : User) → user_of x.roster p.wanted.host ≡ Some user
    → found.refusal ≡ change_refused st p.wanted.host user c)
    → ((user : User) → user_of x.roster p.wanted.host ≡ Some user
    → found.needs ≡ change_needs st p.wanted.host user c)
    → IsDecision c p.wanted.needs (outlook_at x p.number) found due → IsDueOf x st p fresh due r
looked_due x st p fresh c r found due is e a b h =
    subst (IsDueOf x st p fresh due) (sym is) (whether_no (is_passed x p fresh) _ _ e (λ user known.
    subst (λ (f : Found). IsDecision c p.wanted.needs (outlook_at x p.number) f due)
    (found_is st user p.wanted.host c found (a user known) (b user known)) h))

-- # What becomes of a want

pub waits_so : (x : Tables) (st : StoreState) (p : Pending) → is_waiting (outlook_at x p.number) ≡ true
    → IsSending x st p None
waits_so x st p e = whether_yes (is_waiting (outlook_at x p.number)) _ _ e refl

pub ready_so : (x : Tables) (st : StoreState) (p : Pending) (r : Request) (result : Option Sending)
    → p.wanted.request ≡ r → is_waiting (outlook_at x p.number) ≡ false
    → IsSendingOf x st p (is_granted (outlook_at x p.number)) result r → IsSending x st p result
ready_so x st p r result is e h =
    whether_no (is_waiting (outlook_at x p.number)) _ _ e
    (subst (IsSendingOf x st p (is_granted (outlook_at x p.number)) result) (sym is) h)

pub uses_so : (x : Tables) (st : StoreState) (p : Pending) (granted : Bool) (c : ChangeOf) (found : Found)
    (result : Option Sending)
    → ((user : User) → user_of x.roster p.wanted.host ≡ Some user
    → found.refusal ≡ change_refused st p.wanted.host user c)
    → ((user : User) → user_of x.roster p.wanted.host ≡ Some user
    → found.needs ≡ change_needs st p.wanted.host user c)
    → IsUsing c p.wanted.needs granted found result
    → (user : User) → user_of x.roster p.wanted.host ≡ Some user
    → IsUsing c p.wanted.needs granted (found_on st user p.wanted.host c) result
uses_so x st p granted c found result a b h user known =
    subst (λ (f : Found). IsUsing c p.wanted.needs granted f result)
    (found_is st user p.wanted.host c found (a user known) (b user known)) h

-- of a Change that enters, of a lock or an open, and of another
pub change_enters : (x : Tables) (st : StoreState) (p : Pending) (granted : Bool) (result : Option Sending)
    (c : ChangeOf) → c.enter ≡ true
    → result ≡ (if granted then entering_by c (entered_told st c.call) else None)
    → IsChangeSending x st p granted result c
change_enters x st p granted result c e h = whether_yes c.enter _ _ e h

pub change_rests : (x : Tables) (st : StoreState) (p : Pending) (granted : Bool) (c : ChangeOf) → c.enter ≡ false
    → is_use c.call ≡ false → IsChangeSending x st p granted None c
change_rests x st p granted c e f = whether_no c.enter _ _ e (whether_no (is_use c.call) _ _ f refl)

pub change_uses : (x : Tables) (st : StoreState) (p : Pending) (granted : Bool) (c : ChangeOf) (found : Found)
    (result : Option Sending) → c.enter ≡ false → is_use c.call ≡ true
    → ((user : User) → user_of x.roster p.wanted.host ≡ Some user
    → found.refusal ≡ change_refused st p.wanted.host user c)
    → ((user : User) → user_of x.roster p.wanted.host ≡ Some user
    → found.needs ≡ change_needs st p.wanted.host user c)
    → IsUsing c p.wanted.needs granted found result → IsChangeSending x st p granted result c
change_uses x st p granted c found result e f a b h =
    whether_no c.enter _ _ e (whether_yes (is_use c.call) _ _ f (uses_so x st p granted c found result a b h))

-- # What is made of a Change

-- nothing, where it is a Fetch
pub refused_none : (x : Tables) (d : Draft) (st : StoreState) (host : HostId) (refusal : Refusal) (r : Request)
    → ((c : ChangeOf) → r ≡ Changes c → ⊥) → IsRefusing x d st host refusal x d st r
refused_none x d st host refusal (Asks f) never = record {
  both = record { tables = refl; draft = refl };
  stored = refl;
}
refused_none x d st host refusal (Changes c) never = absurd (never c refl)

pub done_none : (x : Tables) (d : Draft) (st : StoreState) (host : HostId) (r : Request)
    → ((c : ChangeOf) → r ≡ Changes c → ⊥) → IsDoing x d st host x d st r
done_none x d st host (Asks f) never = record {
  both = record { tables = refl; draft = refl };
  stored = refl;
}
done_none x d st host (Changes c) never = absurd (never c refl)

module _ (x y : Tables) (d e : Draft) (st next : StoreState) (host : HostId) (c : ChangeOf) (r : Request)
    (is : r ≡ Changes c) (reply : Reply) (a : y ≡ (written_made x d host c reply).tables)
    (b : e ≡ (written_made x d host c reply).draft) where
  pub refused_now : (refusal : Refusal) → reply ≡ Refused refusal
      → (IsRepeatable st (refusing st host c.fileset refusal)
      → next ≡ (act_done st (refusing st host c.fileset refusal)).state)
      → IsRefusing x d st host refusal y e next r
  refused_now refusal told so = subst (IsRefusing x d st host refusal y e next) (sym is) (record {
    both = record {
      tables = a ∙ ap (λ (o : Reply). (written_made x d host c o).tables) told;
      draft = b ∙ ap (λ (o : Reply). (written_made x d host c o).draft) told;
    };
    stored = so;
  })

  pub done_now : HasName c.call
      → (IsRepeatable st (doing st host c.call) → reply ≡ (act_done st (doing st host c.call)).done.reply)
      → (IsRepeatable st (doing st host c.call) → next ≡ (act_done st (doing st host c.call)).state)
      → IsDoing x d st host y e next r
  done_now named told so = subst (IsDoing x d st host y e next) (sym is) (record {
    reply = reply;
    both = record { tables = a; draft = b };
    named = named;
    replied = told;
    stored = so;
  })

  -- the same wants wait
  pub written_served : (old new : View) → IsServed x old.state → IsSameStore old new → IsServed y new.state
  written_served old new s same =
      served_on x y old new s same (ap (λ (z : Tables). z.server) a) (ap (λ (z : Tables). z.roster) a)
      (subst IsCounted (sym a) s.counted) (ap (λ (z : Tables). z.pending) a)

-- a host of the roster asks, and its call is sound
module _ (x : Tables) (st : StoreState) (w : Wanted) (s : IsStoreOf x st) (came : CameSo x.server x.roster w) where
  pub store_host : IsHost st.roster w.host
  store_host = subst (λ (r : Roster). IsHost r w.host) (sym s.roster) (host_asks x.server x.roster w came)

  module _ (c : ChangeOf) (is : w.request ≡ Changes c) where
    pub store_call : IsCall st.roster c.call
    store_call = subst (λ (r : Roster). IsCall r c.call) (sym s.roster) (call_asks x.server x.roster w came c is)

    pub store_may : HasEffect w.request → IsDecidedCall c.call × IsForServer st.server c.call
    store_may effect = let m = may_do x.server x.roster w came c is effect in
        (m.0, subst (λ (v : ServerId). IsForServer v c.call) (sym s.server) m.1)

-- its want is made anew, and waits
pub anew_served : (x y : Tables) (d : Draft) (p : Pending) (needs : List Need) (view : View) → IsServed x view.state
    → CameSo x.server x.roster p.wanted → HasEffect p.wanted.request
    → y ≡ (anew_made x d p needs).tables → IsCounted y → IsServed y view.state
anew_served x y d p needs view s came effect e counted =
    served_more x y view view s (record { server = refl; roster = refl }) (ap (λ (z : Tables). z.server) e)
    (ap (λ (z : Tables). z.roster) e)
    counted (record { number = x.next; wanted = wanted_for p.wanted.host p.wanted.request needs })
    (ap (λ (z : Tables). z.pending) e)
    (record {
      m = came.m;
      came = came.came;
      host = came.host;
      moves = came.moves;
      body = came.body;
      needs = λ fetch is. absurd (subst HasEffect is effect);
    })

-- what was due at a place is made, of the want that stood there
pub decided_so : (x t y : Tables) (d e : Draft) (st next : StoreState) (due : Due) (p : Pending)
    → due.at < length x.pending → p ≡ slice_index_or x.pending due.at p → t ≡ unqueued x due.at p.number
    → IsMadeBy t d st p y e next due.decision → IsDecided x d st due y e next
decided_so x t y d e st next due p l v a h =
    (p, (l, sym v), subst (λ (z : Tables). IsMadeBy z d st p y e next due.decision) a h)
