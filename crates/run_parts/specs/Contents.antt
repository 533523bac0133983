-- What stands at the parts of objects: at the hosts, at the servers, in messages; and the rules for it. The rules are
-- stated for whatever a step writes, shows and gives back; the journal's steps are one case. `past` has the newest
-- first.
use Rattle.std.specs.Prelude.{Bool, List, None, Option, Some, [], false, is_some, not, true, unwrap_or, ℕ, ◌<◌}
use Rattle.std.specs.Prelude.{◌&&◌, ◌||◌, ◌∷◌, ◌≡◌, ◌≤◌, ◌⊎◌}
use Rattle.base_types.specs.declared.ids.Fid.{Fid}
use Rattle.base_types.specs.declared.ids.FilesetId.{FilesetId}
use Rattle.base_types.specs.declared.ids.HostId.{HostId}
use Rattle.base_types.specs.declared.ids.ServerId.{ServerId}
use Rattle.message_types.specs.declared.asking.Fetch.{Fetch as FetchOf}
use Rattle.message_types.specs.declared.giving.Give.{Give}
use Rattle.message_types.specs.declared.message.Body.TheVariants.{Fetch, Grant, Done, Down}
use Rattle.message_types.specs.declared.telling.Bring.{Bring}
use Rattle.message_types.specs.declared.telling.Done.{Done as DoneOf}
use Rattle.message_types.specs.declared.telling.Grant.{Grant as GrantOf}
use Rattle.token_types.specs.Conflicts.{need_of}
use Rattle.token_types.specs.declared.token.Need.{Need}
use Rattle.token_types.specs.declared.token.Token.{Token}
use Rattle.run_parts.specs.Cells.{kept_after}
use Rattle.run_parts.specs.Cells.Does.{Stores, Sets, Loses}
use Rattle.run_parts.specs.Deeds.{Deed, acts_in}
use Rattle.tree_laws.specs.Parts.{Nature, Part, Seen, no_cell}
use Rattle.tree_laws.specs.Parts.Part.{ByteAt, Size, Traits}
use Rattle.need_host.specs.Shows.{is_update, shows}
use Rattle.run_rules.specs.Doings.{BringsTokens, Doing, Granted, HasGoneAway, NoGrace, SentTo, TookNow}
use Rattle.run_rules.specs.Doings.Doing.{Sent, Took, WritesDown}
use Rattle.run_rules.specs.Messages.{About, Asking, Said, SendsFetch, home}
use Rattle.run_rules.specs.Past.{In}
use Rattle.run_rules.specs.Tokens.{AtHand, IsKnown, LeavesHost, Made, Owns, Uses}
use Rattle.run_tokens.specs.TokenLaws.{Applies}
use Rattle.run_rules.specs.declared.applied.Written.{Written}
use Rattle.run_rules.specs.declared.step.Step.{Step}

-- the server at which a file is
abbrev pub site : Fid → ServerId
site fid = home fid.fileset

-- hosts change bytes and sizes only
abbrev pub IsData : Part → Type 0
IsData (ByteAt at) = Unit {0}
IsData Size = Unit {0}
IsData _ = ⊥

-- the object is there; it is a file that can keep what hosts give back
abbrev pub IsThere : Option Nature → Type 0
IsThere seen = (nature : Nature) × (seen ≡ Some nature)

abbrev pub IsWritable : Option Nature → Type 0
IsWritable seen =
    (nature : Nature) × (seen ≡ Some nature) × (nature.dir ≡ false) × (nature.read_only ≡ false)

-- the token shows the part of the object; it is for update, too
pub record Over (token : Token) (fid : Fid) (part : Part) : Type 0 where
  pub file : token.fid ≡ fid
  pub covers : shows token.kind part ≡ true

pub record OverUpdate (token : Token) (fid : Fid) (part : Part) : Type 0 where
  pub file : token.fid ≡ fid
  pub covers : shows token.kind part ≡ true
  pub update : is_update token.kind ≡ true

-- what messages and steps say of parts
pub record Contents : Type 0 where
  -- what is kept at the start
  pub start : Fid → (part : Part) → Seen part
  -- what a Grant tells, what a give-back has
  pub tells : GrantOf → (part : Part) → Seen part
  pub gives : Give → (part : Part) → Option (Seen part)
  -- what a host's step writes, after its earlier ones; what a used Grant shows; which bytes it gives back
  pub wrote : List Step → Step → Fid → (part : Part) → Option (Seen part)
  pub shown : Step → Fid → (part : Part) → Option (Seen part)
  pub hands : Step → Fid → ℕ → Bool
  -- the root of a fileset
  pub root : FilesetId → Fid
  -- what a server does in a step, after all earlier steps, the oldest first
  pub deeds : List Step → Step → List Deed
  pub root_in : (fs : FilesetId) → (root fs).fileset ≡ fs
  pub wrote_data : (past : List Step) (s : Step) (f : Fid) (p : Part) (x : Seen p) → wrote past s f p ≡ Some x
      → IsData p
  pub gives_data : (g : Give) (p : Part) (x : Seen p) → gives g p ≡ Some x → IsData p

-- what a server keeps of a part: the last that was stored or set; a restart keeps it
abbrev pub kept : Contents → List Deed → Fid → (part : Part) → Seen part
kept c [] f p = c.start f p
kept c (d ∷ past) f p = kept_after p (d.does f p) (kept c past f p)

-- what a host sees: the last that it wrote or was shown
abbrev pub view : Contents → List Step → Fid → (part : Part) → Seen part
view c [] f p = (no_cell p).kept
view c (s ∷ past) f p = unwrap_or (c.wrote past s f p) (unwrap_or (c.shown s f p) (view c past f p))

-- what it sees once a step has taken its tokens
abbrev pub sees : Contents → List Step → Step → Fid → (part : Part) → Seen part
sees c past s f p = unwrap_or (c.shown s f p) (view c past f p)

-- the byte was written and has been in no give-back since
abbrev pub dirty : Contents → List Step → Fid → ℕ → Bool
dirty c [] f at = false
dirty c (s ∷ past) f at = (is_some (c.wrote past s f (ByteAt at)) || dirty c past f at) && not (c.hands s f at)

-- a token for update over the part is held, or was when the host stopped
pub record OwnsUpdate (past : List Step) (f : Fid) (p : Part) : Type 0 where
  pub token : Token
  pub owned : Owns past token
  pub file : token.fid ≡ f
  pub covers : shows token.kind p ≡ true
  pub update : is_update token.kind ≡ true

-- the step takes one
abbrev pub TakesUpdate : Step → Fid → Part → Type 0
TakesUpdate s f p = (t : Token) × In t s.taken × OverUpdate t f p

-- the give-back was made since a token for update of the file's status was last taken
abbrev pub MadeSince : List Step → Fid → Give → Type 0
MadeSince [] f g = ⊥
MadeSince (s ∷ past) f g = In g s.made ⊎ (MadeSince past f g × (TakesUpdate s f Size → ⊥))

-- The size is clean, once the step has learnt what it learns: such a give-back has it and is known as applied, and no
-- later one has a size of the file.
pub record Clean (c : Contents) (past : List Step) (s : Step) (f : Fid) : Type 0 where
  pub give : Give
  pub since : MadeSince past f give
  pub alone : TakesUpdate s f Size → ⊥
  pub made : Made past give
  pub file : give.fid ≡ f
  pub has : c.gives give Size ≡ Some (sees c past s f Size)
  pub known : IsKnown (s ∷ past) give
  pub last : (g : Give) (x : ℕ) → Made past g → g.fid ≡ f → c.gives g Size ≡ Some x → g.number ≤ give.number

-- a new give-back has the present size, and names this token
pub record SendsBack (c : Contents) (past : List Step) (s : Step) (f : Fid) (t : Token) : Type 0 where
  pub give : Give
  pub made : In give s.made
  pub file : give.fid ≡ f
  pub has : c.gives give Size ≡ Some (sees c past s f Size)
  pub names : In t.id give.ids

-- what the used Grant tells under a token that is taken
pub record Shows (c : Contents) (past : List Step) (s : Step) (f : Fid) (p : Part) (x : Seen p) : Type 0 where
  pub grant : GrantOf
  pub token : Token
  pub uses : Uses past s grant.bring
  pub came : About past s grant.bring.fid.fileset (Grant grant)
  pub brings : In token grant.bring.tokens
  pub file : grant.bring.fid ≡ f
  pub covers : shows token.kind p ≡ true
  pub tells : c.tells grant p ≡ x

-- the token came by a Done
abbrev pub ByDone : List Step → Step → Token → Type 0
ByDone past s t =
    (done : DoneOf) × About past s t.fid.fileset (Done done) × In t done.bring.tokens

-- a token over the object's traits is at hand, and they are these
pub record Knows (c : Contents) (past : List Step) (s : Step) (f : Fid) (nature : Nature) : Type 0 where
  pub token : Token
  pub held : AtHand s past token
  pub file : token.fid ≡ f
  pub covers : shows token.kind Traits ≡ true
  pub sees : sees c past s f Traits ≡ Some nature

-- the host sees that the object is a directory, or it is a root
abbrev pub KnowsDirectory : Contents → List Step → Step → Fid → Type 0
KnowsDirectory c past s f =
    (f ≡ c.root f.fileset) ⊎ ((nature : Nature) × Knows c past s f nature × (nature.dir ≡ true))

-- it sees that the object is a file, and that an object of its fileset is of no clone
abbrev pub KnowsFile : Contents → List Step → Step → Fid → Type 0
KnowsFile c past s f =
    ((nature : Nature) × Knows c past s f nature × (nature.dir ≡ false))
    × ((g : Fid) × (nature : Nature) × (g.fileset ≡ f.fileset) × Knows c past s g nature × (nature.read_only ≡ false))

-- the Fetch was sent before, wherever and in whatever epoch, and is outstanding
abbrev pub HasSaid : List Step → FetchOf → Type 0
HasSaid past f = (v : ServerId) × (e : ℕ) × (n : ℕ) × Said past v e n (Fetch f)

abbrev pub Repeats : List Step → FetchOf → Type 0
Repeats past f = HasSaid past f × Asking past f.fid.fileset f.number

-- what a host may have unsaved by itself: a dirty byte; the size, while it has the token
abbrev pub Pending : Contents → List Step → Fid → Part → Type 0
Pending c past f (ByteAt q) = dirty c past f q ≡ true
Pending c past f Size = OwnsUpdate past f Size
Pending c past f _ = ⊥

-- a new Fetch has a new number; it asks for nothing of a file that may be unsaved, and for no file of which something
-- is on its way back
pub record Asks (c : Contents) (past : List Step) (s : Step) (f : FetchOf) : Type 0 where
  pub new : (g : FetchOf) → HasSaid past g → g.fid.fileset ≡ f.fid.fileset → g.number ≡ f.number → ⊥
  pub free : (p : Part) (n : Need) → In n f.needs → shows n.kind p ≡ true → Pending c (s ∷ past) f.fid p
      → KnowsDirectory c past s f.fid
  pub back : (g : Give) → Made (s ∷ past) g → g.fid ≡ f.fid → (IsKnown (s ∷ past) g → ⊥) → ⊥

abbrev pub FetchesSo : Contents → List Step → Step → Type 0
FetchesSo c past s = (f : FetchOf) → SendsFetch s f → Repeats past f ⊎ Asks c past s f

-- what a step that takes tokens shows
pub record TakesShow (c : Contents) (past : List Step) (s : Step) : Type 0 where
  -- what is shown is what the used Grant tells under the tokens that are taken; those of a Done show nothing
  pub shown_by : (f : Fid) (p : Part) (x : Seen p) → c.shown s f p ≡ Some x → Shows c past s f p x
  pub shows_all : (t : Token) (p : Part) → In t s.taken → shows t.kind p ≡ true
      → ((x : Seen p) × (c.shown s t.fid p ≡ Some x)) ⊎ ByDone past s t
  -- when something is taken that shows a part, nothing stays outstanding that was so before
  pub takes_last : (t : Token) (p : Part) (fs : FilesetId) (n : ℕ) → In t s.taken → shows t.kind p ≡ true
      → Asking (s ∷ past) fs n → Asking past fs n → ⊥

-- what a step gives back
pub record GivesShow (c : Contents) (past : List Step) (s : Step) : Type 0 where
  -- a step makes one give-back of a file
  pub gives_once : (g k : Give) → In g s.made → In k s.made → g.fid ≡ k.fid → g ≡ k
  -- bytes. A give-back has dirty ones as the host sees them, under tokens that it names, and no other token for update
  -- covers them
  pub hands : (f : Fid) (q : ℕ) → c.hands s f q ≡ true
      → (g : Give) × (x : ℕ) × In g s.made × (g.fid ≡ f) × (c.gives g (ByteAt q) ≡ Some x)
  pub gives_seen : (g : Give) (q x : ℕ) → In g s.made → c.gives g (ByteAt q) ≡ Some x
      → sees c past s g.fid (ByteAt q) ≡ x
  pub gives_dirty : (g : Give) (q x : ℕ) → In g s.made → c.gives g (ByteAt q) ≡ Some x → dirty c past g.fid q ≡ true
  pub gives_under : (g : Give) (q x : ℕ) → In g s.made → c.gives g (ByteAt q) ≡ Some x
      → (t : Token) × AtHand s past t × In t.id g.ids × OverUpdate t g.fid (ByteAt q)
  pub gives_last : (g : Give) (q x : ℕ) → In g s.made → c.gives g (ByteAt q) ≡ Some x
      → OwnsUpdate (s ∷ past) g.fid (ByteAt q) → ⊥
  -- a dirty byte stays under a token for update, or a give-back has it
  pub saves : (f : Fid) (q : ℕ) → dirty c past f q ≡ true → OwnsUpdate past f (ByteAt q)
      → OwnsUpdate (s ∷ past) f (ByteAt q) ⊎ (c.hands s f q ≡ true)
  -- sizes. A give-back has it as the host sees it, under a token for update, where it isn't clean
  pub gives_unclean : (g : Give) (x : ℕ) → In g s.made → c.gives g Size ≡ Some x → Clean c past s g.fid → ⊥
  pub gives_size : (g : Give) (x : ℕ) → In g s.made → c.gives g Size ≡ Some x → sees c past s g.fid Size ≡ x
  pub gives_own : (g : Give) (x : ℕ) → In g s.made → c.gives g Size ≡ Some x
      → OwnsUpdate past g.fid Size ⊎ TakesUpdate s g.fid Size
  -- where it isn't clean the token for update is kept, or a new give-back has it and names the token
  pub saves_size : (f : Fid) (u : OwnsUpdate past f Size) → (Clean c past s f → ⊥)
      → OwnsUpdate (s ∷ past) f Size ⊎ SendsBack c past s f u.token
  -- both. A give-back with bytes has the size too, where the host has the token for it and it isn't clean
  pub gives_too : (g : Give) (q x : ℕ) → In g s.made → c.gives g (ByteAt q) ≡ Some x → OwnsUpdate past g.fid Size
      → (Clean c past s g.fid → ⊥) → (y : ℕ) × (c.gives g Size ≡ Some y)

-- what a step writes, it writes when nothing is asked for; a size only grows
pub record WritesGrow (c : Contents) (past : List Step) (s : Step) : Type 0 where
  pub writes_alone : (f : Fid) (p : Part) (x : Seen p) (fs : FilesetId) (n : ℕ) → c.wrote past s f p ≡ Some x
      → Asking (s ∷ past) fs n → ⊥
  pub grows : (f : Fid) (y : ℕ) → c.wrote past s f Size ≡ Some y → sees c past s f Size < y

-- what a host's step may do at parts
pub record HostShows (c : Contents) (past : List Step) (s : Step) : Type 0 where
  pub takes : TakesShow c past s
  pub gives : GivesShow c past s
  pub grown : WritesGrow c past s
  -- what it takes stays in the step
  pub takes_stay : (t : Token) → In t s.taken → LeavesHost s t.id → ⊥
  -- a part is written under a token for update, of a file; a byte by a step that doesn't give it back
  pub writes : (f : Fid) (p : Part) (x : Seen p) → c.wrote past s f p ≡ Some x → OwnsUpdate (s ∷ past) f p
  pub writes_file : (f : Fid) (p : Part) (x : Seen p) → c.wrote past s f p ≡ Some x → KnowsFile c past s f
  pub writes_only : (f : Fid) (q x y : ℕ) (g : Give) → c.wrote past s f (ByteAt q) ≡ Some x → In g s.made → g.fid ≡ f
      → c.gives g (ByteAt q) ≡ Some y → ⊥
  pub writes_kept : (f : Fid) (q x : ℕ) → c.wrote past s f (ByteAt q) ≡ Some x → c.hands s f q ≡ false
  -- it is written below the size that the host sees after the step, under a status token
  pub writes_below : (f : Fid) (q x : ℕ) → c.wrote past s f (ByteAt q) ≡ Some x
      → (q < view c (s ∷ past) f Size) × ((t : Token) × Owns (s ∷ past) t × Over t f Size)
  -- a Fetch is sent again while it is outstanding, or it is a new one
  pub fetches : FetchesSo c past s

-- no host has the token: it isn't granted, and it is no grace period
abbrev pub Bars : ServerId → List Doing → Token → Type 0
Bars v past t = NoGrace past × (Granted v past t → ⊥)

-- a byte is kept below the kept size
abbrev pub Fits : Contents → List Deed → Fid → Part → Type 0
Fits c past f (ByteAt q) = q < kept c past f Size
Fits c past f _ = Unit {0}

-- all that is kept of a fileset is of a clone, or nothing is; a root is a directory
abbrev pub AreAlike : Contents → ServerId → List Deed → Type 0
AreAlike c v deeds =
    (f g : Fid) (a b : Nature) → site f ≡ v → f.fileset ≡ g.fileset → kept c deeds f Traits ≡ Some a
    → kept c deeds g Traits ≡ Some b → a.read_only ≡ b.read_only

abbrev pub HaveRoots : Contents → ServerId → List Deed → Type 0
HaveRoots c v deeds =
    (fs : FilesetId) (a : Nature) → home fs ≡ v → kept c deeds (c.root fs) Traits ≡ Some a → a.dir ≡ true

-- what a server's doing may do at parts
pub record ServerShows (c : Contents) (v : ServerId) (past : List Deed) (d : Deed) : Type 0 where
  -- a Grant tells what is kept, and its tokens are what the Fetch asks for; a Done brings no token that shows a part
  pub tells : (h : HostId) (e n : ℕ) (p : Part) (w : GrantOf) (t : Token) → d.act ≡ Sent h e n (Grant w)
      → In t w.bring.tokens → shows t.kind p ≡ true → c.tells w p ≡ kept c past w.bring.fid p
  pub needs : (h : HostId) (e n : ℕ) (w : GrantOf) → d.act ≡ Sent h e n (Grant w)
      → (f : FetchOf) × (m : ℕ) × TookNow (acts_in past) h m (Fetch f)
      × (f.number ≡ w.bring.number) × (f.fid ≡ w.bring.fid)
      × ((t : Token) → In t w.bring.tokens → In (need_of t) f.needs)
  pub blind : (h : HostId) (e n : ℕ) (p : Part) (w : DoneOf) (t : Token) → d.act ≡ Sent h e n (Done w)
      → In t w.bring.tokens → shows t.kind p ≡ true → SentTo (acts_in past) h e n (Done w)
  -- tokens are brought for an object that is there, or brought again
  pub there : (h : HostId) (e n : ℕ) (w : Bring) (t : Token) → BringsTokens d.act h e n w → In t w.tokens
      → Granted v (acts_in past) t ⊎ IsThere (kept c past t.fid Traits)
  -- what a give-back has is stored by the doing that applies it, of a file that can keep it; nothing else is stored
  pub stores : (f : Fid) (p : Part) (x : Seen p) → d.does f p ≡ Stores x
      → (h : HostId) × (g : Give) × Applies v (acts_in past) d.act h g × (g.fid ≡ f) × (c.gives g p ≡ Some x)
  pub stores_all : (h : HostId) (g : Give) (p : Part) (x : Seen p) → Applies v (acts_in past) d.act h g
      → IsWritable (kept c past g.fid Traits) → Fits c (d ∷ past) g.fid p → c.gives g p ≡ Some x
      → d.does g.fid p ≡ Stores x
  -- a Change sets a part when it is written down: of an object that isn't there, or else while tokens over the part
  -- are barred; with the size those over bytes, and with the object's removal all of the object
  pub sets : (f : Fid) (p : Part) (x : Seen p) → d.does f p ≡ Sets x
      → ((w : Written) × (d.act ≡ WritesDown w))
      × ((kept c past f Traits ≡ None)
      ⊎ ((t : Token) → t.fid ≡ f → shows t.kind p ≡ true → Bars v (acts_in past) t))
  pub sets_whole : (f : Fid) (x q : ℕ) (t : Token) → d.does f Size ≡ Sets x → t.fid ≡ f
      → shows t.kind (ByteAt q) ≡ true → (kept c past f Traits ≡ None) ⊎ Bars v (acts_in past) t
  pub removes : (f : Fid) (t : Token) → d.does f Traits ≡ Sets None → t.fid ≡ f → Bars v (acts_in past) t
  -- what is there stays a directory or a file, of a clone or not; all of a fileset is of a clone, or nothing; a root is
  -- a directory
  pub keeps_kind : (f : Fid) (old new : Nature) → d.does f Traits ≡ Sets (Some new) → kept c past f Traits ≡ Some old
      → (new.dir ≡ old.dir) × (new.read_only ≡ old.read_only)
  pub alike : AreAlike c v (d ∷ past)
  pub roots : HaveRoots c v (d ∷ past)
  -- what a host hasn't saved is lost with its Down, once
  pub loses : (f : Fid) (p : Part) (h : HostId) → d.does f p ≡ Loses h
      → (e : ℕ) × (n : ℕ) × (d.act ≡ Took h e n Down)
  pub loses_all : (f : Fid) (p : Part) (h : HostId) (e n : ℕ) → d.act ≡ Took h e n Down
      → (HasGoneAway (acts_in past) h → ⊥) → d.does f p ≡ Loses h
