-- The tree of a run, part by part, and what holds of it. Lists of steps have the newest first.
use Rattle.run_rules.specs.Doings.{HasGoneAway, IsApplied, doings_of}
use Rattle.run_rules.specs.Doings.Doing.{BeginsEpoch}
use Rattle.run_rules.specs.Messages.{HasStopped}
use Rattle.run_rules.specs.Past.{EachInTurn, appended}
use Rattle.run_rules.specs.Steps.{steps_of_host}
use Rattle.run_rules.specs.Tokens.{AtHand, Held, Made, number_of}
use Rattle.run_tokens.specs.TokenLaws.{Applies}
use Rattle.std.specs.Prelude.{List, None, Some, [], if◌then◌else◌, true, ℕ, ◌==◌, ◌∷◌, ◌≡◌, ◌<◌, ◌≤◌, ◌⊎◌}
use Rattle.base_types.specs.declared.ids.Fid.{Fid}
use Rattle.base_types.specs.declared.ids.HostId.{HostId}
use Rattle.base_types.specs.declared.ids.Node.{Node}
use Rattle.base_types.specs.declared.ids.Node.TheVariants.{Host, Server}
use Rattle.base_types.specs.declared.ids.ServerId.{ServerId}
use Rattle.message_types.specs.declared.giving.Give.{Give}
use Rattle.token_types.specs.declared.token.Token.{Token}
use Rattle.run_parts.specs.Cells.{by, cell_after, written}
use Rattle.run_parts.specs.Cells.Does.{Nothing, Sets}
use Rattle.run_parts.specs.Contents.{AreAlike, Bars, Contents, HaveRoots, HostShows, IsData, IsThere, IsWritable}
use Rattle.run_parts.specs.Contents.{ServerShows, dirty, kept}
use Rattle.run_parts.specs.Contents.{OwnsUpdate, sees, site, view}
use Rattle.run_parts.specs.Doings.{doings}
use Rattle.run_parts.specs.Deeds.{Deed, acts_in}
use Rattle.tree_laws.specs.Parts.{Cell, Part, Seen, Written, present}
use Rattle.tree_laws.specs.Parts.Part.{ByteAt, Size, Traits}
use Rattle.need_host.specs.Shows.{is_update, shows}
use Rattle.run_rules.specs.declared.step.Step.{Step}

-- a value at each part of each object
abbrev pub Cells : Type 0
Cells = Fid → (part : Part) → Cell (Seen part)

abbrev pub cells_after : Deed → Cells → Cells
cells_after d cells f p = cell_after p (d.does f p) (cells f p)

-- the doings of a server's step, one after the other
abbrev pub cells_served : List Deed → Cells → Cells
cells_served [] cells = cells
cells_served (d ∷ more) cells = cells_served more (cells_after d cells)

-- a server starts in an epoch, which changes nothing
abbrev pub first_deed : ℕ → Deed
first_deed first = record { act = BeginsEpoch first; does = λ f p. Nothing }

abbrev pub served_after : Contents → ServerId → Node → Step → List Step → List Deed → List Deed
served_after c v (Host host) s past deeds = deeds
served_after c v (Server server) s past deeds = if server.0 == v.0 then appended (c.deeds past s) deeds else deeds

-- all that a server has done, from its first epoch on
abbrev pub served : Contents → ℕ → ServerId → List Step → List Deed
served c first v [] = first_deed first ∷ []
served c first v (s ∷ past) = served_after c v s.node s past (served c first v past)

-- the tree after a step: a host writes; the server of the file stores, sets, loses
abbrev pub tree_after : Contents → Node → Step → List Step → Cells → Cells
tree_after c (Host host) s past cells f p = written host (c.wrote (steps_of_host host past) s f p) (cells f p)
tree_after c (Server server) s past cells f p =
    if server.0 == (site f).0 then cells_served (c.deeds past s) cells f p else cells f p

abbrev pub tree : Contents → List Step → Cells
tree c [] f p = record { kept = c.start f p; unsaved = None }
tree c (s ∷ past) f p = tree_after c s.node s past (tree c past) f p

-- each node's steps treat parts by the rules; `firsts` are the epochs in which the servers start
abbrev pub StepShows : Contents → (ServerId → ℕ) → Node → List Step → Step → Type 0
StepShows c firsts (Host host) past s = HostShows c (steps_of_host host past) s
StepShows c firsts (Server v) past s =
    (acts_in (c.deeds past s) ≡ doings s (acts_in (served c (firsts v) v past)))
    × EachInTurn (ServerShows c v) (c.deeds past s) (served c (firsts v) v past)

abbrev pub ContentsRun : Contents → (ServerId → ℕ) → List Step → Type 0
ContentsRun c firsts [] = (v : ServerId) → AreAlike c v [] × HaveRoots c v []
ContentsRun c firsts (s ∷ past) = ContentsRun c firsts past × StepShows c firsts s.node past s

-- a size that is stored is at least the kept and at most the present one, and it is the kept one or the unsaved one is
-- the host's
abbrev pub LegalSize : Cell ℕ → HostId → ℕ → Type 0
LegalSize cell h x =
    (cell.kept ≤ x) × (x ≤ present cell) × ((x ≡ cell.kept) ⊎ ((y : ℕ) × (cell.unsaved ≡ Some (by h y))))

-- what a server's doing does is legal
pub record LegalDoing (c : Contents) (v : ServerId) (past : List Deed) (d : Deed) (cells : Cells) : Type 0 where
  -- a byte that is stored is the host's unsaved one, of a file that can keep it, below the kept size that is left
  pub bytes : (h : HostId) (g : Give) (q x : ℕ) → site g.fid ≡ v → Applies v (acts_in past) d.act h g
      → c.gives g (ByteAt q) ≡ Some x
      → ((cells g.fid (ByteAt q)).unsaved ≡ Some (by h x)) × IsWritable (kept c past g.fid Traits)
      × (q < kept c (d ∷ past) g.fid Size)
  pub sizes : (h : HostId) (g : Give) (x : ℕ) → site g.fid ≡ v → Applies v (acts_in past) d.act h g
      → c.gives g Size ≡ Some x → LegalSize (cells g.fid Size) h x
  -- the object is there of which something is given back
  pub there : (h : HostId) (g : Give) (p : Part) (x : Seen p) → site g.fid ≡ v → Applies v (acts_in past) d.act h g
      → c.gives g p ≡ Some x → IsThere (present (cells g.fid Traits))
  -- a Change finds nothing unsaved where it sets something
  pub changes : (f : Fid) (p : Part) (x : Seen p) → site f ≡ v → d.does f p ≡ Sets x → (cells f p).unsaved ≡ None

-- what the server looks at for a Change is on its kept files what it is in the tree: traits and entries always, and
-- each part while tokens for update over it are barred
abbrev pub IsStill : ServerId → List Deed → Fid → Part → Type 0
IsStill v past f p =
    (IsData p → ⊥)
    ⊎ ((t : Token) → t.fid ≡ f → shows t.kind p ≡ true → is_update t.kind ≡ true → Bars v (acts_in past) t)

pub record KeptIsPresent (c : Contents) (v : ServerId) (past : List Deed) (cells : Cells) : Type 0 where
  pub kept : (f : Fid) (p : Part) → site f ≡ v → (cells f p).kept ≡ kept c past f p
  pub still : (f : Fid) (p : Part) → site f ≡ v → IsStill v past f p → (cells f p).unsaved ≡ None

abbrev pub LegalDoings : Contents → ServerId → List Deed → List Deed → Cells → Type 0
LegalDoings c v [] past cells = Unit {0}
LegalDoings c v (d ∷ more) past cells =
    LegalDoing c v past d cells × KeptIsPresent c v past cells × LegalDoings c v more (d ∷ past) (cells_after d cells)

-- what a host sees under a token at hand is present
abbrev pub LegalStep : Contents → (ServerId → ℕ) → Node → Step → List Step → Type 0
LegalStep c firsts (Host h) s past =
    (t : Token) (p : Part) → AtHand s (steps_of_host h past) t → shows t.kind p ≡ true
    → sees c (steps_of_host h past) s t.fid p ≡ present (tree c past t.fid p)
LegalStep c firsts (Server v) s past =
    LegalDoings c v (c.deeds past s) (served c (firsts v) v past) (tree c past)

abbrev pub Legal : Contents → (ServerId → ℕ) → List Step → Type 0
Legal c firsts [] = Unit {0}
Legal c firsts (s ∷ past) = Legal c firsts past × LegalStep c firsts s.node s past

-- what a host that hasn't stopped sees under a token that it holds is what is present, in a grace period too
abbrev pub SeesPresent : Contents → List Step → Type 0
SeesPresent c past =
    (h : HostId) (p : Part) (t : Token) → (HasStopped (steps_of_host h past) → ⊥) → Held (steps_of_host h past) t
    → shows t.kind p ≡ true → view c (steps_of_host h past) t.fid p ≡ present (tree c past t.fid p)

-- the server's kept values are the tree's
abbrev pub KeepsTree : Contents → (ServerId → ℕ) → List Step → Type 0
KeepsTree c firsts past =
    (f : Fid) (p : Part) → (tree c past f p).kept ≡ kept c (served c (firsts (site f)) (site f) past) f p

-- a give-back that isn't applied has the value
abbrev pub IsOnItsWay : Contents → (ServerId → ℕ) → List Step → HostId → Fid → (p : Part) → Seen p → Type 0
IsOnItsWay c firsts past h f p x =
    (g : Give) × Made (steps_of_host h past) g × (g.fid ≡ f) × (c.gives g p ≡ Some x)
    × (IsApplied (site f) (doings_of (firsts (site f)) (site f) past) h (number_of g) → ⊥)

-- the byte is one that the host wrote and hasn't given back, or it is in a give-back that isn't applied
abbrev pub Unstored : Contents → (ServerId → ℕ) → List Step → HostId → Fid → ℕ → ℕ → Type 0
Unstored c firsts past h f q x =
    ((dirty c (steps_of_host h past) f q ≡ true) × (view c (steps_of_host h past) f (ByteAt q) ≡ x))
    ⊎ IsOnItsWay c firsts past h f (ByteAt q) x

-- Until the server takes a host's Down, the host's unsaved bytes are exactly these: what a Down then loses. Its unsaved
-- size is the one that it sees with a token for update, or is on its way.
pub record LosesExactly (c : Contents) (firsts : ServerId → ℕ) (past : List Step) : Type 0 where
  pub all : (h : HostId) (q x : ℕ) (f : Fid) → (tree c past f (ByteAt q)).unsaved ≡ Some (by h x)
      → Unstored c firsts past h f q x
  pub only : (h : HostId) (q x : ℕ) (f : Fid) → (HasGoneAway (doings_of (firsts (site f)) (site f) past) h → ⊥)
      → Unstored c firsts past h f q x → (tree c past f (ByteAt q)).unsaved ≡ Some (by h x)
  pub sizes : (h : HostId) (x : ℕ) (f : Fid) → (tree c past f Size).unsaved ≡ Some (by h x)
      → (OwnsUpdate (steps_of_host h past) f Size × (view c (steps_of_host h past) f Size ≡ x))
      ⊎ IsOnItsWay c firsts past h f Size x
  pub away : (h : HostId) (p : Part) (x : Seen p) (f : Fid) → (tree c past f p).unsaved ≡ Some (by h x)
      → HasGoneAway (doings_of (firsts (site f)) (site f) past) h → ⊥

-- each unsaved byte lies below the present size, and is of a file that can keep it
pub record LiesInside (c : Contents) (firsts : ServerId → ℕ) (past : List Step) : Type 0 where
  pub below : (f : Fid) (q : ℕ) (u : Written ℕ) → (tree c past f (ByteAt q)).unsaved ≡ Some u
      → q < present (tree c past f Size)
  pub writable : (f : Fid) (p : Part) (u : Written (Seen p)) → (tree c past f p).unsaved ≡ Some u
      → IsWritable (tree c past f Traits).kept
