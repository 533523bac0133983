-- What every run keeps at the parts of objects: of a host alone; of a host, the tree and a server; of the tree and a
-- server.
use Rattle.message_types.specs.declared.message.Body.TheVariants.{Bye}
use Rattle.std.proofs.Common.{◌≡◌, ℕ, ◌<◌, ◌≤◌, ◌⊎◌, ◌==◌, ◌&&◌, ◌||◌, not, Bool, true, false, Some, None, List, []}
use Rattle.std.proofs.Common.{◌∷◌, sym, ◌∙◌, ap, subst, inl, inr, refl, arith, eqb-true}
use Rattle.base_types.specs.declared.ids.HostId.{HostId}
use Rattle.base_types.specs.declared.ids.ServerId.{ServerId}
use Rattle.base_types.specs.declared.ids.Fid.{Fid}
use Rattle.base_types.specs.Ids.{same_fid}
use Rattle.token_types.specs.declared.token.Token.{Token}
use Rattle.token_types.specs.declared.token.Need.{Need}
use Rattle.token_types.specs.Conflicts.{conflict, needs_conflict, need_of}
use Rattle.tree_answers.proofs.Followed.{same_fid_itself}
use Rattle.need_host.proofs.Showing.{tokens_show_parts}
use Rattle.message_types.specs.declared.message.Body.TheVariants.{Grant, Done, GiveBack}
use Rattle.message_types.specs.declared.asking.Fetch.{Fetch as FetchOf}
use Rattle.message_types.specs.declared.telling.Grant.{Grant as GrantOf}
use Rattle.message_types.specs.declared.telling.Done.{Done as DoneOf}
use Rattle.message_types.specs.declared.giving.Give.{Give}
use Rattle.message_types.specs.declared.giving.AppliedGive.{AppliedGive}
use Rattle.run_rules.specs.declared.step.Step.{Step}
use Rattle.run_rules.specs.Doings.{Doing, HasGoneAway, IsApplied, Issued, SentTo, StayStamp, TakesOf}
use Rattle.run_rules.specs.Messages.{Asking, HasSaid as HasTold, epoch_at}
use Rattle.run_rules.specs.Past.{In}
use Rattle.run_rules.specs.Tokens.{AboveFloor, IsKnown, Made, Owns, number_of}
use Rattle.run_tokens.proofs.Owed.{Owed}
use Rattle.run_tokens.proofs.Invariant.{Served, Link}
use Rattle.tree_laws.specs.Parts.{Nature, Part, Seen, Written, present}
use Rattle.tree_laws.specs.Parts.Part.{ByteAt, Size, Traits, Entries}
use Rattle.need_host.specs.Shows.{shows, is_update, updates, needs_update}
use Rattle.run_parts.specs.Cells.{by}
use Rattle.run_parts.specs.Deeds.{Deed, acts_in}
use Rattle.run_parts.specs.Contents.{Contents, site, kept, view, dirty, OwnsUpdate, MadeSince, HasSaid, IsData}
use Rattle.run_parts.specs.Contents.{Pending}
use Rattle.run_parts.specs.Contents.{IsThere, IsWritable, Bars, AreAlike, HaveRoots}
use Rattle.run_parts.specs.Legal.{Cells}

-- of a host alone
pub record Alike (c : Contents) (A : List Step) : Type 0 where
  pub dirty_owned : (q : ℕ) (f : Fid) → dirty c A f q ≡ true → OwnsUpdate A f (ByteAt q)
  -- a token is issued by the server of its file
  pub owned_at : (t : Token) → Owns A t → t.id.server ≡ site t.fid
  -- a host that has said Bye has nothing on its way
  pub bye_given : (v : ServerId) (g : Give) (p : Part) (x : Seen p) → HasTold A v Bye → Made A g → c.gives g p ≡ Some x
      → IsKnown A g

-- the object is a directory at the server, if it is there
abbrev pub IsDirectory : Contents → List Deed → Fid → Type 0
IsDirectory c D f = (n : Nature) × (kept c D f Traits ≡ Some n) × (n.dir ≡ true)

-- the host's give-back has the value, and the server hasn't applied it
pub record Open (c : Contents) (A : List Step) (v : ServerId) (S : List Doing) (h : HostId) (f : Fid) (p : Part)
    (x : Seen p) (g : Give) : Type 0 where
  pub made : Made A g
  pub file : g.fid ≡ f
  pub has : c.gives g p ≡ Some x
  pub not_applied : IsApplied v S h (number_of g) → ⊥

-- a give-back that isn't applied, of this number or a later one, names a token for update of the part
pub record Leaving (A : List Step) (v : ServerId) (S : List Doing) (h : HostId) (f : Fid) (p : Part)
    (n : ℕ) : Type 0 where
  pub give : Give
  pub token : Token
  pub mark : StayStamp
  pub made : Made A give
  pub same : give.fid ≡ f
  pub not_applied : IsApplied v S h (number_of give) → ⊥
  pub issued : Issued S token mark
  pub names : In token.id give.ids
  pub file : token.fid ≡ f
  pub covers : shows token.kind p ≡ true
  pub update : is_update token.kind ≡ true
  pub later : n ≤ give.number

-- of a host h with the steps A, the tree, and the server v with the doings D
pub record Shown (c : Contents) (h : HostId) (A : List Step) (cells : Cells) (v : ServerId)
    (D : List Deed) : Type 0 where
  -- at any part. The view under an owned token, and what a Grant of the host's present epoch tells that answers the
  -- outstanding Fetch above the floor, is what is present
  pub cached : (p : Part) (t : Token) → site t.fid ≡ v → Owns A t → shows t.kind p ≡ true → (HasGoneAway (acts_in D) h → ⊥)
      → view c A t.fid p ≡ present (cells t.fid p)
  pub flight : (e n : ℕ) (p : Part) (w : GrantOf) (t : Token) → site w.bring.fid ≡ v
      → SentTo (acts_in D) h e n (Grant w) → e ≡ epoch_at A v → Asking A w.bring.fid.fileset w.bring.number
      → AboveFloor A w.bring.fid w.bring.stamp → In t w.bring.tokens → shows t.kind p ≡ true → (HasGoneAway (acts_in D) h → ⊥)
      → c.tells w p ≡ present (cells w.bring.fid p)
  -- what it has unsaved is pending, or on its way; it isn't away
  pub mine : (p : Part) (f : Fid) (x : Seen p) → site f ≡ v → (cells f p).unsaved ≡ Some (by h x)
      → (HasGoneAway (acts_in D) h → ⊥) × (Pending c A f p ⊎ ((g : Give) × Open c A v (acts_in D) h f p x g))
  -- what is on its way is under a token for update that is there or leaves no earlier
  pub open_under : (p : Part) (f : Fid) (x : Seen p) (g : Give) → site f ≡ v → Open c A v (acts_in D) h f p x g
      → OwnsUpdate A f p ⊎ Leaving A v (acts_in D) h f p g.number
  -- the outstanding Fetch asks for nothing of a file that may be unsaved, and for nothing on its way
  pub asked : (p : Part) (f : FetchOf) (k : Need) → site f.fid ≡ v → HasSaid A f → Asking A f.fid.fileset f.number
      → In k f.needs → shows k.kind p ≡ true → Pending c A f.fid p → (HasGoneAway (acts_in D) h → ⊥) → IsDirectory c D f.fid
  pub asked_given : (p : Part) (f : FetchOf) (x : Seen p) (k : Need) (g : Give) → site f.fid ≡ v → HasSaid A f
      → Asking A f.fid.fileset f.number → In k f.needs → shows k.kind p ≡ true → Open c A v (acts_in D) h f.fid p x g
      → (HasGoneAway (acts_in D) h → ⊥) → IsDirectory c D f.fid
  pub asked_for : (e n : ℕ) (w : GrantOf) → SentTo (acts_in D) h e n (Grant w) → (f : FetchOf) × HasSaid A f
      × (f.number ≡ w.bring.number) × (f.fid ≡ w.bring.fid)
      × ((t : Token) → In t w.bring.tokens → In (need_of t) f.needs)
  pub blind : (e n : ℕ) (p : Part) (w : DoneOf) (t : Token) → SentTo (acts_in D) h e n (Done w) → In t w.bring.tokens
      → shows t.kind p ≡ true → ⊥
  -- bytes. A dirty one, and one on its way, is unsaved
  pub dirty_is : (q : ℕ) (f : Fid) → site f ≡ v → dirty c A f q ≡ true → (HasGoneAway (acts_in D) h → ⊥)
      → (cells f (ByteAt q)).unsaved ≡ Some (by h (view c A f (ByteAt q)))
  pub open_is : (q : ℕ) (f : Fid) (x : ℕ) (g : Give) → site f ≡ v → Open c A v (acts_in D) h f (ByteAt q) x g
      → (HasGoneAway (acts_in D) h → ⊥) → (cells f (ByteAt q)).unsaved ≡ Some (by h x)
  -- while a byte is on its way its host owns no token for update over it, and it is on its way once
  pub open_free : (q : ℕ) (f : Fid) (x : ℕ) (g : Give) → site f ≡ v → Open c A v (acts_in D) h f (ByteAt q) x g
      → OwnsUpdate A f (ByteAt q) → ⊥
  pub open_once : (q : ℕ) (f : Fid) (x y : ℕ) (g k : Give) → site f ≡ v → Open c A v (acts_in D) h f (ByteAt q) x g
      → Open c A v (acts_in D) h f (ByteAt q) y k → g ≡ k
  -- sizes. One on its way is between the kept and the present one, and a later one isn't below it
  pub size_open : (f : Fid) (x : ℕ) (g : Give) → site f ≡ v → Open c A v (acts_in D) h f Size x g
      → (HasGoneAway (acts_in D) h → ⊥) → ((cells f Size).kept ≤ x) × (x ≤ present (cells f Size))
  pub open_order : (f : Fid) (x y : ℕ) (g k : Give) → site f ≡ v → Open c A v (acts_in D) h f Size x g
      → Open c A v (acts_in D) h f Size y k → (HasGoneAway (acts_in D) h → ⊥) → g.number ≤ k.number → x ≤ y
  -- since the token was taken, no size that was given back is above the present one; where that one is applied, nothing
  -- is unsaved
  pub since_le : (f : Fid) (x : ℕ) (g : Give) → site f ≡ v → OwnsUpdate A f Size → MadeSince A f g → g.fid ≡ f
      → c.gives g Size ≡ Some x → (HasGoneAway (acts_in D) h → ⊥) → x ≤ view c A f Size
  pub settled : (f : Fid) (g : Give) → site f ≡ v → OwnsUpdate A f Size → MadeSince A f g → Made A g → g.fid ≡ f
      → c.gives g Size ≡ Some (view c A f Size) → IsApplied v (acts_in D) h (number_of g) → (HasGoneAway (acts_in D) h → ⊥)
      → (cells f Size).unsaved ≡ None
  -- both. A byte on its way lies below the kept size, or below one on its way that is applied no later
  pub open_below : (q : ℕ) (f : Fid) (x : ℕ) (g : Give) → site f ≡ v → Open c A v (acts_in D) h f (ByteAt q) x g
      → (HasGoneAway (acts_in D) h → ⊥) → (q < (cells f Size).kept)
      ⊎ ((y : ℕ) × (r : Give) × Open c A v (acts_in D) h f Size y r × (q < y) × (r.number ≤ g.number))

-- of the tree and the server
pub record Treed (c : Contents) (cells : Cells) (v : ServerId) (D : List Deed) : Type 0 where
  pub kept_is : (p : Part) (f : Fid) → site f ≡ v → (cells f p).kept ≡ kept c D f p
  pub plain : (p : Part) (f : Fid) → site f ≡ v → (IsData p → ⊥) → (cells f p).unsaved ≡ None
  pub alike : AreAlike c v D
  pub roots : HaveRoots c v D
  -- a token that is owed is for an object that is there
  pub there : (t : Token) → site t.fid ≡ v → Owed v (acts_in D) t → IsThere (kept c D t.fid Traits)
  -- what is unsaved is of a file that can keep it
  pub writable : (p : Part) (f : Fid) (u : Written (Seen p)) → site f ≡ v → (cells f p).unsaved ≡ Some u
      → IsWritable (kept c D f Traits)
  pub grown : (f : Fid) (u : Written ℕ) → site f ≡ v → (cells f Size).unsaved ≡ Some u → (cells f Size).kept ≤ u.value
  -- an unsaved byte lies below the present size; below the kept one, where the unsaved size is another host's
  pub inside : (q : ℕ) (f : Fid) (u : Written ℕ) → site f ≡ v → (cells f (ByteAt q)).unsaved ≡ Some u
      → q < present (cells f Size)
  pub apart : (q : ℕ) (f : Fid) (u w : Written ℕ) → site f ≡ v → (cells f (ByteAt q)).unsaved ≡ Some u
      → (cells f Size).unsaved ≡ Some w → (u.writer ≡ w.writer → ⊥) → q < (cells f Size).kept

host_apart : (a b : HostId) → (a ≡ b → ⊥) → not (a.0 == b.0) ≡ true
host_apart a b two = go (a.0 == b.0) refl
  where
    go : (q : Bool) → (a.0 == b.0) ≡ q → not q ≡ true
    go true e = absurd (two (ap (λ (n : ℕ). record { 0 = n }) (eqb-true a.0 b.0 e)))
    go false e = refl

no_less : (b : Bool) → (b || false) ≡ true → b ≡ true
no_less true e = refl
no_less false e = e

one_way : (b c : Bool) → b ≡ true → (b || c) ≡ true
one_way true c e = refl
one_way false c e = absurd (cc)

both : (a b : Bool) → a ≡ true → b ≡ true → (a && b) ≡ true
both true b e q = q
both false b e q = absurd (cc)

pub conflict_at : (p : Part) (t u : Token) → (t.host ≡ u.host → ⊥) → t.fid ≡ u.fid → shows t.kind p ≡ true
    → shows u.kind p ≡ true → is_update u.kind ≡ true → conflict t u ≡ true
conflict_at p t u two same a b up =
    let update : needs_update (need_of u ∷ []) t.fid p ≡ true =
    one_way (same_fid u.fid t.fid && updates u.kind p) false
    (both (same_fid u.fid t.fid) (updates u.kind p) (ap (λ (z : Fid). same_fid u.fid z) same
    ∙ same_fid_itself u.fid) (both (is_update u.kind) (shows u.kind p) up b)) in
    both (not (t.host.0 == u.host.0)) (needs_conflict (need_of t) (need_of u)) (host_apart t.host u.host two)
    (no_less (needs_conflict (need_of t) (need_of u))
    (tokens_show_parts.conflict (need_of t) (need_of u ∷ []) p a update))

-- a token for update over the part is owed to the host
pub record Writes (v : ServerId) (S : List Doing) (h : HostId) (f : Fid) (p : Part) : Type 0 where
  pub token : Token
  pub owed : Owed v S token
  pub host : token.host ≡ h
  pub file : token.fid ≡ f
  pub covers : shows token.kind p ≡ true
  pub update : is_update token.kind ≡ true

-- no other host is owed a token over the part then
pub alone_there : (v : ServerId) (S : List Doing) → Served v S → (h : HostId) (p : Part) (f : Fid) (t : Token)
    → Writes v S h f p → Owed v S t → t.fid ≡ f → shows t.kind p ≡ true → (t.host ≡ h → ⊥) → ⊥
alone_there v S served h p f t w o same cov two =
    served.apart t w.token o w.owed
    (conflict_at p t w.token (λ e. two (e ∙ w.host)) (same ∙ sym w.file) cov w.covers w.update)

pub pending_owned : (c : Contents) (A : List Step) → Alike c A → (p : Part) (f : Fid) → Pending c A f p
    → OwnsUpdate A f p
pending_owned c A seen (ByteAt q) f d = seen.dirty_owned q f d
pending_owned c A seen Size f u = u
pending_owned c A seen Traits f d = elim d [ ]
pending_owned c A seen Entries f d = elim d [ ]

module _ (c : Contents) (h : HostId) (A : List Step) (cells : Cells) (v : ServerId) (D : List Deed)
    (served : Served v (acts_in D)) (link : Link h v A (acts_in D)) (seen : Alike c A)
    (shown : Shown c h A cells v D) where
  pub owner_writes : (p : Part) (f : Fid) → site f ≡ v → (HasGoneAway (acts_in D) h → ⊥) → OwnsUpdate A f p
      → Writes v (acts_in D) h f p
  owner_writes p f home live u =
      let x = link.held u.token (seen.owned_at u.token u.owned ∙ (ap site u.file ∙ home)) u.owned in
      record { token = u.token; owed = x.owed live; host = x.host; file = u.file; covers = u.covers; update = u.update }

  pub open_writes : (p : Part) (f : Fid) (x : Seen p) (g : Give) → site f ≡ v → (HasGoneAway (acts_in D) h → ⊥)
      → Open c A v (acts_in D) h f p x g → Writes v (acts_in D) h f p
  open_writes p f x g home live o = elim (shown.open_under p f x g home o) [
    | inl u ↦ owner_writes p f home live u
    | inr l ↦ leaving l
  ]
    where
      leaving : Leaving A v (acts_in D) h f p g.number → Writes v (acts_in D) h f p
      leaving l =
          let i = link.given l.give l.token.id (served.id l.token l.mark l.issued) l.made l.names l.not_applied live in
          let y = served.owed_issued i.token i.owed in
          let one : i.token ≡ l.token = (served.unique i.token l.token y.0 l.mark y.1 l.issued i.same).0 in
          record {
            token = l.token;
            owed = subst (Owed v (acts_in D)) one i.owed;
            host = ap (λ (z : Token). z.host) (sym one) ∙ i.host;
            file = l.file;
            covers = l.covers;
            update = l.update;
          }

  -- what is unsaved is under a token for update that is owed to its writer
  pub mine_writes : (p : Part) (f : Fid) (x : Seen p) → site f ≡ v → (cells f p).unsaved ≡ Some (by h x)
      → Writes v (acts_in D) h f p
  mine_writes p f x home e =
      let m = shown.mine p f x home e in
      elim m.1 [
        | inl d ↦ owner_writes p f home m.0 (pending_owned c A seen p f d)
        | inr o ↦ open_writes p f x o.0 home m.0 o.1
      ]

-- what is barred isn't owed
pub barred : (v : ServerId) (S : List Doing) → Served v S → (t : Token) → Bars v S t → Owed v S t → ⊥
barred v S served t b o = b.1 (served.owed_granted t o (b.0 t.host (served.owed_live t o)))

-- what is applied is so with all below it
pub applied_below : (v : ServerId) (S : List Doing) (h : HostId) (n m : AppliedGive) → m.fileset ≡ n.fileset
    → m.number ≤ n.number → IsApplied v S h n → IsApplied v S h m
applied_below v [] h n m same le e = elim e [ ]
applied_below v (a ∷ S) h n m same le (inl (g, t, f, l)) =
    inl (g, subst (λ fs. TakesOf v S a h fs (GiveBack g)) (sym same) t, f ∙ sym same, omega (arith, le, l))
applied_below v (a ∷ S) h n m same le (inr e) = inr (applied_below v S h n m same le e)
