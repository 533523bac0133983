-- What is answered to wants is sound, and so are the tables then.
use Rattle.std.proofs.Common.{◌≡◌, ◌∙◌, ◌+◌, ◌/◌, ℕ, Bool, true, false, ◌&&◌, ◌==◌, List, [], ◌∷◌, Option, Some}
use Rattle.std.proofs.Common.{None}
use Rattle.std.proofs.Common.{ap, arith, inl, inr, refl, subst, sym}
use Rattle.std.specs.List.{list_all}
use Rattle.std.specs.Prelude.{if◌then◌else◌, is_some, not, IfSome}
use Rattle.std.proofs.lemmas.Bool.{and_parts, eqb-true, ltb-true}
use Rattle.base_types.specs.Ids.{same_fid}
use Rattle.base_types.specs.declared.ids.Fid.{Fid}
use Rattle.base_types.specs.declared.ids.FilesetId.{FilesetId}
use Rattle.base_types.specs.declared.ids.HostId.{HostId}
use Rattle.base_types.specs.declared.ids.ServerId.{ServerId}
use Rattle.tree_calls.specs.declared.part.DirEntry.{DirEntry}
use Rattle.tree_calls.specs.declared.part.Piece.{Piece}
use Rattle.tree_calls.specs.declared.part.Status.{Status as StatusOf}
use Rattle.tree_calls.specs.declared.reply.Reply.{Reply}
use Rattle.tree_calls.specs.declared.roster.Roster.{Roster}
use Rattle.token_types.specs.declared.token.Kind.{Kind}
use Rattle.token_types.specs.declared.token.Kind.TheVariants.{Bytes, Lock, Opening, Status}
use Rattle.token_types.specs.declared.token.Need.{Need}
use Rattle.token_types.specs.declared.token.Token.{Token}
use Rattle.message_types.specs.Soundness.{Brings, Each, HasRoom, IsBrought, IsNumbered, IsOutcome, IsReply, IsSound}
use Rattle.message_types.specs.Soundness.{IsTold}
use Rattle.message_types.specs.declared.asking.Change.{Change as ChangeOf}
use Rattle.message_types.specs.declared.asking.Fetch.{Fetch as FetchOf}
use Rattle.message_types.specs.declared.message.Body.{Body}
use Rattle.message_types.specs.declared.message.Body.TheVariants.{Done, Grant}
use Rattle.message_types.specs.declared.message.Message.{Message}
use Rattle.message_types.specs.declared.telling.Done.{Done as DoneOf}
use Rattle.message_types.specs.declared.telling.DoneIs.{DoneIs}
use Rattle.message_types.specs.declared.telling.Grant.{Grant as GrantOf}
use Rattle.message_types.specs.declared.telling.DoneIs.TheVariants.{Again, Elsewhere, Granted, Known, Reply as Replied}
use Rattle.server_tables.specs.Answers.{done_without}
use Rattle.server_tables.specs.Places.{is_of}
use Rattle.server_tables.specs.Sound.{AreSaid, AreSound, CanBeAsked, CanHear}
use Rattle.server_tables.specs.Steps.{to_host}
use Rattle.server_tables.specs.Updates.{unqueued}
use Rattle.server_tables.specs.declared.pending.Pending.{Pending}
use Rattle.server_tables.specs.declared.tables.Tables.{Tables}
use Rattle.server_tables.proofs.Eaches.{each_so}
use Rattle.server_tables.proofs.SoundTables.{decided_sound, enqueued_sound, renewed_sound, said_end, stamped_sound}
use Rattle.server_tables.proofs.SoundTables.{unqueued_sound, word_sound}
use Rattle.server_says.specs.Drafts.{saying, word}
use Rattle.server_says.specs.Taking.{IsMadeOf, Made, made, wanted_for}
use Rattle.server_says.specs.Draft.{Draft}
use Rattle.server_says.specs.Writing.{done_of, written_made, written_of}
use Rattle.server_says.specs.Found.{Found}
use Rattle.server_decides.specs.Deciding.{anew_made, is_fresh, is_of_row, still_fresh}
use Rattle.server_decides.specs.Saying.{AreGranted, IsKnownHere, IsOfHere, IsSayable, MaySay, SaysOn, are_brought}
use Rattle.server_decides.specs.Saying.{file_for, has_room, is_brought}
use Rattle.server_decides.specs.Sending.{IsUsing, done_made, empty_made, empty_with, entering_by, file_of, grant_with}
use Rattle.server_decides.specs.Sending.{granted_made, granted_out, granted_tokens, granting, said_made, tokens_of}
use Rattle.server_decides.specs.Sending.{use_made, use_with}
use Rattle.server_decides.specs.declared.sending.Sending.{Sending}
use Rattle.server_decides.specs.declared.sending.Sending.TheVariants.{Grant as Grants, Say, Use}

-- # Filesets that are here

pub here_number : (server : ServerId) (fileset : FilesetId) → is_of server fileset ≡ true
    → fileset.0 / 65536 ≡ server.0
here_number server fileset h = eqb-true (fileset.0 / 65536) server.0 h

numbered_so : (m : Message) (fileset : FilesetId) → IsOfHere m.server fileset → IsNumbered m fileset
numbered_so m fileset (inl e) = inl e
numbered_so m fileset (inr h) = inr (λ moves. here_number m.server fileset h)

outcome_so : (roster : Roster) (m : Message) (outcome : DoneIs) → IsKnownHere m.server outcome
    → IsOutcome roster m outcome
outcome_so roster m (Replied reply) k = absurd k
outcome_so roster m (Known fileset) k = λ moves. here_number m.server fileset k
outcome_so roster m Granted k = absurd k
outcome_so roster m Again k = tt
outcome_so roster m (Elsewhere server) k = absurd k

-- # Tokens that are brought

room_so : (k : Kind) → has_room k ≡ true → HasRoom k
room_so (Bytes update span) e = ltb-true span.from span.to e
room_so (Status update) e = tt
room_so (Lock writing span) e = ltb-true span.from span.to e
room_so (Opening kind) e = tt

one_fid : (a b : Fid) → same_fid a b ≡ true → a ≡ b
one_fid a b e =
    let p = and_parts ((a.fileset.0 == b.fileset.0) && (a.anode == b.anode)) (a.unique == b.unique) e in
    let q = and_parts (a.fileset.0 == b.fileset.0) (a.anode == b.anode) p.0 in
    let f = eqb-true a.fileset.0 b.fileset.0 q.0 in
    let n = eqb-true a.anode b.anode q.1 in
    let u = eqb-true a.unique b.unique p.1 in
    λ i. record { fileset = record { 0 = f i }; anode = n i; unique = u i }

module _ (server : ServerId) (e : ℕ) (host : HostId) (fid : Fid) where
  record IsIts (t : Token) : Type 0 where
    pub issuer : t.id.server ≡ server
    pub epoch : t.id.epoch ≡ e
    pub of : t.host ≡ host
    pub file : t.fid ≡ fid
    pub room : HasRoom t.kind

  brought_is : (t : Token) → is_brought server e host fid t ≡ true → IsIts t
  brought_is t q =
      let own = t.id.server.0 == server.0 in
      let now = t.id.epoch == e in
      let its = t.host.0 == host.0 in
      let a = and_parts (((own && now) && its) && same_fid t.fid fid) (has_room t.kind) q in
      let b = and_parts ((own && now) && its) (same_fid t.fid fid) a.0 in
      let c = and_parts (own && now) its b.0 in
      let d = and_parts own now c.0 in
      let s = eqb-true t.id.server.0 server.0 d.0 in
      let h = eqb-true t.host.0 host.0 c.1 in
      record {
        issuer = λ i. record { 0 = s i };
        epoch = eqb-true t.id.epoch e d.1;
        of = λ i. record { 0 = h i };
        file = one_fid t.fid fid b.1;
        room = room_so t.kind a.1;
      }

  each_is : (ts : List Token) → list_all (is_brought server e host fid) ts ≡ true → Each IsIts ts
  each_is [] q = tt
  each_is (t ∷ ts) q =
      let p = and_parts (is_brought server e host fid t) (list_all (is_brought server e host fid) ts) q in
      (brought_is t p.0, each_is ts p.1)

  module _ (ts : List Token) (q : are_brought server e host fid ts ≡ true) where
    both : (is_of server fid.fileset ≡ true) × (list_all (is_brought server e host fid) ts ≡ true)
    both = and_parts (is_of server fid.fileset) (list_all (is_brought server e host fid) ts) q

    pub brought_here : is_of server fid.fileset ≡ true
    brought_here = both.0

    pub brings_so : (b : Body) (number stamp : ℕ)
        → Brings (to_host server host e 0 b) (record { number = number; fid = fid; stamp = stamp; tokens = ts })
    brings_so b number stamp = record {
      tokens = each_so IsIts (IsBrought (to_host server host e 0 b) fid) ts (λ t i. record {
        own = record { host = i.of; server = i.issuer; room = i.room };
        file = i.file;
        epoch = i.epoch;
      }) (each_is ts both.1);
      home = λ t us r moves. here_number server fid.fileset both.0;
    }

    pub brought_asked : (roster : Roster) → CanHear server roster host → Each (CanBeAsked server roster) ts
    brought_asked roster hears = each_so IsIts (CanBeAsked server roster) ts (λ t i. record {
      hears = subst (CanHear server roster) (sym i.of) hears;
      issued = i.issuer;
      here = subst (λ (f : Fid). is_of server f.fileset ≡ true) (sym i.file) both.0;
    }) (each_is ts both.1)

-- the tokens that a want is granted were looked at
pub granted_test : (server : ServerId) (e : ℕ) (q p : Pending) (fid : Option Fid) (file : Fid)
    (seen us ts : List Token) (b : Bool) → b ≡ true → b ≡ are_brought server e q.wanted.host file seen → seen ≡ us
    → us ≡ ts → file ≡ file_for fid us → q ≡ p
    → are_brought server e p.wanted.host (file_for fid ts) ts ≡ true
granted_test server e q p fid file seen us ts b passed is s t f same =
    sym (is ∙ (λ i. are_brought server e (same i).wanted.host ((f ∙ ap (file_for fid) t) i) ((s ∙ t) i))) ∙ passed

-- # Messages

module _ (server : ServerId) (roster : Roster) (host : HostId) (e : ℕ) (hears : CanHear server roster host) where
  abbrev says : Body → Message
  says b = to_host server host e 0 b

  without_sound : (fileset : FilesetId) (number : ℕ) (outcome : DoneIs) → IsOfHere server fileset
      → IsOutcome roster (says (Done (done_without fileset outcome number))) outcome
      → IsSound roster (says (Done (done_without fileset outcome number)))
  without_sound fileset number outcome h k =
      let b = Done (done_without fileset outcome number) in
      word_sound server roster host e hears b refl tt (record {
        fileset = numbered_so (says b) fileset h;
        outcome = k;
        brings = record { tokens = tt; home = λ t ts q. absurd (cc) };
        some = λ t ts q. absurd (cc);
        none = λ q. (refl, refl);
      })

  use_sound : (fileset : FilesetId) (number stamp : ℕ) (ts : List Token) → IsOfHere server fileset
      → are_brought server e host (file_of ts) ts ≡ true
      → IsSound roster (says (Done (use_with fileset number (stamp + 1) ts)))
  use_sound fileset number stamp ts h q =
      let b = Done (use_with fileset number (stamp + 1) ts) in
      word_sound server roster host e hears b refl tt (record {
        fileset = numbered_so (says b) fileset h;
        outcome = tt;
        brings = brings_so server e host (file_of ts) ts q b number (stamp + 1);
        some = λ t us r. omega arith;
        none = λ r. absurd (never r);
      })
    where
      -- a declared server's filesets are none of number 0
      never : ts ≡ [] → ⊥
      never r =
          let f = subst (λ (us : List Token). is_of server (file_of us).fileset ≡ true) r
          (brought_here server e host (file_of ts) ts q) in
          let n = eqb-true (0 / 65536) server.0 f in
          let first = hears.own.first in
          omega (arith, n, first)

  empty_sound : (fetch : FetchOf) (stamp : ℕ) → is_of server fetch.fid.fileset ≡ true
      → IsSound roster (says (Grant (empty_with fetch (stamp + 1))))
  empty_sound fetch stamp h =
      word_sound server roster host e hears (Grant (empty_with fetch (stamp + 1))) refl tt (record {
        stamp = omega arith;
        brings = record { tokens = tt; home = λ t ts q. absurd (cc) };
        home = λ moves. here_number server fetch.fid.fileset h;
        told = record {
          size = tt;
          lists = tt;
          bytes = record { ends = tt; order = tt; together = omega arith; count = omega arith };
          order = tt;
          few = omega arith;
          absent = λ q. (refl, refl);
        };
        absent = λ q. refl;
      })

  told_sound : (number stamp : ℕ) (fid : Fid) (ts : List Token) (status : StatusOf) (pieces : List Piece)
      (entries : List DirEntry) → are_brought server e host fid ts ≡ true → IsTold (Some status) pieces entries
      → IsSound roster (says (Grant (record {
        bring = record { number = number; fid = fid; stamp = stamp + 1; tokens = ts };
        status = Some status;
        pieces = pieces;
        entries = entries;
      })))
  told_sound number stamp fid ts status pieces entries q told =
      let grant : GrantOf = record {
        bring = record { number = number; fid = fid; stamp = stamp + 1; tokens = ts };
        status = Some status;
        pieces = pieces;
        entries = entries;
      } in
      word_sound server roster host e hears (Grant grant) refl tt (record {
        stamp = omega arith;
        brings = brings_so server e host fid ts q (Grant grant) number (stamp + 1);
        home = λ moves. here_number server fid.fileset (brought_here server e host fid ts q);
        told = told;
        absent = λ r. absurd (cc);
      })

-- # What may be said

pub fetched_sayable : (server : ServerId) (granted : Bool) (fetch : FetchOf) (o : Option Sending)
    → o ≡ (if granted then Some (Grants fetch) else None) → is_of server fetch.fid.fileset ≡ true
    → IfSome o (IsSayable server)
fetched_sayable server granted fetch o q h = subst (λ s. IfSome s (IsSayable server)) (sym q) (by granted)
  where
    by : (b : Bool) → IfSome (if b then Some (Grants fetch) else None) (IsSayable server)
    by true = h
    by false = tt

pub entered_sayable : (server : ServerId) (change : ChangeOf) (found : Option FilesetId) (o : Option Sending)
    → o ≡ entering_by change found → IsOfHere server change.fileset
    → IfSome found (λ id. is_of server id ≡ true) → IfSome o (IsSayable server)
entered_sayable server change found o q h k = subst (λ s. IfSome s (IsSayable server)) (sym q) (by found k)
  where
    by : (f : Option FilesetId) → IfSome f (λ id. is_of server id ≡ true)
        → IfSome (entering_by change f) (IsSayable server)
    by None k = tt
    by (Some id) k = (h, k)

pub used_sayable : (server : ServerId) (change : ChangeOf) (needs : List Need) (granted : Bool) (found : Found)
    (o : Option Sending) → IsUsing change needs granted found o → IsOfHere server change.fileset
    → IfSome o (IsSayable server)
used_sayable server change needs granted found o u h =
    subst (λ s. IfSome s (IsSayable server)) (sym u.1)
    (by (is_some found.refusal) (not (is_of_row change needs u.0.same)) granted)
  where
    by : (a b c : Bool) → IfSome (if a then None else (if b then Some (Say change.fileset change.number Again)
        else (if c then Some (Use change.fileset change.number) else None))) (IsSayable server)
    by true b c = tt
    by false true c = (h, tt)
    by false false true = h
    by false false false = tt

-- # What is made

pub says_then : (x y z : Tables) (d e f : Draft) → SaysOn x d y e → SaysOn y e z f → SaysOn x d z f
says_then x y z d e f a b = record {
  server = b.server ∙ a.server;
  roster = b.roster ∙ a.roster;
  sound = b.sound;
  said = λ s. subst (λ (w : ServerId × Roster). AreSaid w.0 w.1 f.sent) (λ i. (a.server i, a.roster i))
      (b.said (subst (λ (w : ServerId × Roster). AreSaid w.0 w.1 e.sent) (λ i. (sym a.server i, sym a.roster i))
      (a.said s)));
}

pub unqueued_says : (x u : Tables) (d : Draft) (at number : ℕ) → u ≡ unqueued x at number → AreSound x
    → SaysOn x d u d
unqueued_says x u d at number q s = subst (λ (w : Tables). SaysOn x d w d) (sym q) (record {
  server = refl;
  roster = refl;
  sound = unqueued_sound x s at number;
  said = λ a. a;
})

pub says_none : (x : Tables) (d : Draft) → AreSound x → SaysOn x d x d
says_none x d s = record { server = refl; roster = refl; sound = s; said = λ a. a }

-- other drafts say the same
pub says_same : (x y : Tables) (d e f : Draft) → f.sent ≡ e.sent → SaysOn x d y e → SaysOn x d y f
says_same x y d e f q s = record {
  server = s.server;
  roster = s.roster;
  sound = s.sound;
  said = λ a. subst (AreSaid x.server x.roster) (sym q) (s.said a);
}

pub made_says : (x : Tables) (d : Draft) (y : Tables) (e : Draft) (pair : Made) → IsMadeOf x d y e pair
    → SaysOn x d pair.tables pair.draft → SaysOn x d y e
made_says x d y e pair m s =
    subst (λ (w : Made). SaysOn x d w.tables w.draft) (λ i. made (sym m.tables i) (sym m.draft i)) s

-- `t`: the tables when it is said, `y` once it is noted
spoken : (x t y : Tables) (d : Draft) (h : HostId) (b : Body) → t.server ≡ x.server → t.roster ≡ x.roster
    → y.server ≡ x.server → y.roster ≡ x.roster → AreSound y → IsSound t.roster (word t h b)
    → SaysOn x d y (saying d (word t h b))
spoken x t y d h b v r v2 r2 s q = record {
  server = v2;
  roster = r2;
  sound = s;
  said = λ a. subst (λ (w : ServerId × Roster). AreSaid w.0 w.1 (saying d (word t h b)).sent) (λ i. (v i, r i))
      (said_end t.server t.roster h t.hosts.epoch d.sent
      (subst (λ (w : ServerId × Roster). AreSaid w.0 w.1 d.sent) (λ i. (sym v i, sym r i)) a) b q);
}

done_says : (x t : Tables) (d : Draft) (h : HostId) (o : DoneOf) → t.server ≡ x.server → t.roster ≡ x.roster
    → AreSound t → IsSound t.roster (word t h (Done o))
    → SaysOn x d (done_made t d h o).tables (done_made t d h o).draft
done_says x t d h o v r s q =
    spoken x t (done_made t d h o).tables d h (Done o) v r v r (renewed_sound t s h o None q) q

module _ (x : Tables) (d : Draft) (at : ℕ) (p : Pending) where
  abbrev host : HostId
  host = p.wanted.host

  pub said_says : (fileset : FilesetId) (number : ℕ) (outcome : DoneIs) → MaySay x p (Say fileset number outcome)
      → SaysOn x d (said_made x d at p fileset number outcome).tables (said_made x d at p fileset number outcome).draft
  said_says fileset number outcome may =
      done_says x (unqueued x at p.number) d host (done_without fileset outcome number) refl refl
      (unqueued_sound x may.sound at p.number)
      (without_sound x.server x.roster host x.hosts.epoch may.hears fileset number outcome may.sayable.0
      (outcome_so x.roster (word x host (Done (done_without fileset outcome number))) outcome may.sayable.1))

  pub empty_says : (fetch : FetchOf) → MaySay x p (Grants fetch)
      → SaysOn x d (empty_made x d at p fetch).tables (empty_made x d at p fetch).draft
  empty_says fetch may =
      spoken x x (empty_made x d at p fetch).tables d host (Grant (empty_with fetch (x.stamp + 1))) refl refl refl refl
      (stamped_sound (unqueued x at p.number) (unqueued_sound x may.sound at p.number))
      (empty_sound x.server x.roster host x.hosts.epoch may.hears fetch x.stamp may.sayable)

  module _ (fid : Option Fid) (granted : AreGranted x p fid) (sound : AreSound x)
      (hears : CanHear x.server x.roster host) where
    abbrev ts : List Token
    ts = granted_tokens x.tokens p.number

    out_sound : AreSound (granted_out x at p.number)
    out_sound =
        stamped_sound (unqueued (granting x p.number) at p.number)
        (unqueued_sound (granting x p.number)
        (decided_sound x sound p.number (λ n us q. subst (Each (CanBeAsked x.server x.roster))
        (ap tokens_of q) (brought_asked x.server x.hosts.epoch host (file_for fid ts) ts granted x.roster hears)))
        at p.number)

  pub use_says : (fileset : FilesetId) (number : ℕ) → MaySay x p (Use fileset number) → AreGranted x p None
      → SaysOn x d (use_made x d at p fileset number).tables (use_made x d at p fileset number).draft
  use_says fileset number may granted =
      done_says x (granted_out x at p.number) d host
      (use_with fileset number (x.stamp + 1) (granted_tokens x.tokens p.number)) refl refl
      (out_sound None granted may.sound may.hears)
      (use_sound x.server x.roster host x.hosts.epoch may.hears fileset number x.stamp
      (granted_tokens x.tokens p.number) may.sayable granted)

  pub grant_says : (fetch : FetchOf) (status : StatusOf) (pieces : List Piece) (entries : List DirEntry)
      → MaySay x p (Grants fetch) → AreGranted x p (Some fetch.fid) → IsTold (Some status) pieces entries
      → SaysOn x d (granted_made x d at p (grant_with x p fetch status pieces entries)).tables
      (granted_made x d at p (grant_with x p fetch status pieces entries)).draft
  grant_says fetch status pieces entries may granted told =
      spoken x x (granted_out x at p.number) d host (Grant (grant_with x p fetch status pieces entries))
      refl refl refl refl (out_sound (Some fetch.fid) granted may.sound may.hears)
      (told_sound x.server x.roster host x.hosts.epoch may.hears fetch.number x.stamp fetch.fid
      (granted_tokens x.tokens p.number) status pieces entries granted told)

-- a Change is written down
pub written_says : (x : Tables) (d : Draft) (h : HostId) (change : ChangeOf) (reply : Reply) → AreSound x
    → CanHear x.server x.roster h → IsOfHere x.server change.fileset → IsReply reply
    → SaysOn x d (written_made x d h change reply).tables (written_made x d h change reply).draft
written_says x d h change reply s hears here room =
    let q = without_sound x.server x.roster h x.hosts.epoch hears change.fileset change.number (Replied reply) here
    room in
    let both = written_made x d h change reply in
    says_same x both.tables d (saying d (word x h (Done (done_of change reply)))) both.draft refl
    (spoken x x both.tables d h (Done (done_of change reply)) refl refl refl refl
    (renewed_sound x s h (done_of change reply) (Some (written_of h change reply)) q) q)

-- a want is made anew
still_sent : (fresh : Option ℕ) (number : ℕ) (d : Draft) → (still_fresh fresh number d).sent ≡ d.sent
still_sent fresh number d = by (is_fresh fresh number)
  where
    by : (b : Bool) → (if b then d else record d { fresh = fresh }).sent ≡ d.sent
    by true = refl
    by false = refl

pub anew_says : (x : Tables) (d : Draft) (p : Pending) (needs : List Need) → AreSound x
    → SaysOn x d (anew_made x d p needs).tables (anew_made x d p needs).draft
anew_says x d p needs s = record {
  server = refl;
  roster = refl;
  sound = enqueued_sound x s (wanted_for p.wanted.host p.wanted.request needs);
  said = λ a. subst (AreSaid x.server x.roster) (sym (still_sent d.fresh p.number _)) a;
}
