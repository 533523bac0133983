-- Whole steps in which tokens leave, and no call is answered: what becomes of the tables by them.
use Rattle.base_types.specs.declared.ids.Fid.{Fid}
use Rattle.base_types.specs.declared.ids.FilesetId.{FilesetId}
use Rattle.base_types.specs.declared.limits.TheConstants.{FILE_BYTES_MAX}
use Rattle.host_cache.specs.Holding.{tokens_of}
use Rattle.host_cache.specs.Seen.{Kept}
use Rattle.host_cache.specs.declared.held.Held.{Held}
use Rattle.host_dirty.specs.Dirtiness.{is_dirty as is_dirty_in}
use Rattle.host_dirty.specs.declared.dirty.Dirty.{Dirty}
use Rattle.host_gives.specs.Counters.{last_of}
use Rattle.host_gives.specs.Giving.{Giving}
use Rattle.host_labels.specs.Labels.{InUse as InUseOf, is_pinned}
use Rattle.host_labels.specs.declared.uses.Labelled.{Labelled as UseOf}
use Rattle.host_tables.specs.Giving.{GivesBack}
use Rattle.host_tables.specs.Half.{half}
use Rattle.host_tables.specs.Letting.{Keeping}
use Rattle.host_tables.specs.Quiet.{Moved, MovesRight, with_moved}
use Rattle.host_tables.specs.Settling.{Settled}
use Rattle.host_tables.specs.Stands.{LabelsStand, Stands}
use Rattle.host_tables.specs.Tables.{content, held_of, is_shown_by, labelled, length_given, own_of}
use Rattle.host_gives.specs.declared.leavings.Leaving.{Leaving}
use Rattle.host_lengths.specs.declared.given.Given.{Given}
use Rattle.host_tables.specs.declared.tables.Tables.{Tables}
use Rattle.message_types.specs.declared.giving.Ends.{Ends}
use Rattle.message_types.specs.declared.giving.Give.{Give}
use Rattle.message_types.specs.declared.message.Body.TheVariants.{GiveBack}
use Rattle.message_types.specs.declared.message.Message.{Message}
use Rattle.run_rules.specs.HostMay.{HostMay}
use Rattle.run_rules.specs.HostTokens.{OwnsUpdate}
use Rattle.run_rules.specs.Messages.{KeepsToken, Stops}
use Rattle.run_rules.specs.Past.{In}
use Rattle.run_rules.specs.Tokens.{GivesUse, LabelInUse}
use Rattle.run_rules.specs.Views.{HasLength, gives_at, is_dirty}
use Rattle.run_rules.specs.declared.step.Labelled.{Labelled}
use Rattle.run_rules.specs.declared.step.Step.{Step}
use Rattle.script_lines.specs.declared.script.Script.{Script}
use Rattle.std.specs.Prelude.{Bool, List, None, Option, Some, [], false, filter, not, true, ℕ, ◌&&◌, ◌∷◌, ◌≡◌, ◌≤◌}
use Rattle.std.specs.Prelude.{◌⊎◌}
use Rattle.token_types.specs.declared.token.Token.{Token}
use Rattle.token_types.specs.declared.token.TokenId.{TokenId}
use Rattle.tree_laws.specs.Parts.{Part}
use Rattle.tree_laws.specs.Parts.Part.{ByteAt}

-- what may change of the tables
pub record Left : Type 0 where
  pub cache : Kept
  pub dirty : Dirty
  pub lengths : List Given
  pub uses : InUseOf
  pub gives : Giving
  pub leaving : List Leaving
  pub ending : Option Labelled

abbrev pub with_left : Tables → Left → Tables
with_left m l = record m {
  cache = l.cache;
  dirty = l.dirty;
  lengths = l.lengths;
  uses = l.uses;
  gives = l.gives;
  leaving = l.leaving;
  ending = l.ending;
}

-- no call is answered, and the host doesn't stop
pub record IsSilent (s : Step) : Type 0 where
  pub answers : s.answers ≡ []
  pub wrote : s.wrote ≡ None
  pub begun : s.begun ≡ []
  pub no_stop : Stops s → ⊥

-- which label the give-backs that are made end
pub data EndsBy (m : Tables) (l : Left) (past : List Step) (s : Step) : Type 0 where
  EndsNone : ((g : Give) (ends : Ends) → In g s.made → g.ends ≡ Some ends → ⊥) → l.ending ≡ m.ending → EndsBy m l past s
  -- one ends the use of this label, and no other is on its way that ends one
  EndsOne : (g : Give) (u : Labelled) → In g s.made → ((k : Give) → In k s.made → g ≡ k) → LabelInUse past u
      → GivesUse g u
      → ((w : Labelled) → LabelInUse past w → GivesUse g w → w ≡ u)
      → m.ending ≡ None → l.ending ≡ Some u → EndsBy m l past s

-- that is what the step makes of them
pub record LeavesRight (m : Tables) (l : Left) (past : List Step) (s : Step) : Type 0 where
  -- tokens are dropped from the cache, and it shows the rest as before
  pub stays : Held → Bool
  pub held_is : l.cache.held ≡ filter stays m.cache.held
  pub content_is : (fid : Fid) (part : Part) → is_shown_by (tokens_of l.cache.held) fid part ≡ true
      → content l.cache fid part ≡ content m.cache fid part
  pub beyond : (fid : Fid) (at : ℕ) → FILE_BYTES_MAX ≤ at → content l.cache fid (ByteAt at) ≡ content m.cache fid
      (ByteAt at)
  pub dirty : (fid : Fid) (at : ℕ) → is_dirty_in l.dirty fid at
      ≡ (is_dirty_in m.dirty fid at && not (gives_at s fid at))
  pub length_new : (g : Give) (n : ℕ) → In g s.made → g.length ≡ Some n
      → length_given l.lengths g.fid ≡ Some (record { fid = g.fid; number = g.number; length = n; known = false })
  pub length_old : (fid : Fid) → ((g : Give) → In g s.made → HasLength g fid → ⊥)
      → length_given l.lengths fid ≡ length_given m.lengths fid
  -- labels whose use a give-back ends are no more, and what a Kept names is pinned
  pub keeps_label : UseOf → Bool
  pub labels_are : l.uses.labels ≡ filter keeps_label m.uses.labels
  pub label_kept : (u : UseOf) → In u m.uses.labels → ((g : Give) → In g s.made → GivesUse g (labelled u) → ⊥)
      → keeps_label u ≡ true
  pub label_gone : (u : UseOf) → keeps_label u ≡ true → (g : Give) → In g s.made → GivesUse g (labelled u) → ⊥
  pub pinned : (i : TokenId) → is_pinned l.uses i ≡ true → (is_pinned m.uses i ≡ true) ⊎ KeepsToken s i
  pub pins : (u : UseOf) → In u l.uses.labels → (is_pinned m.uses u.token.id ≡ true) ⊎ KeepsToken s u.token.id
      → is_pinned l.uses u.token.id ≡ true
  -- give-backs
  pub gives_from : (y : Message) → In y l.gives.gives → In y m.gives.gives ⊎ ((g : Give) × (y.body ≡ GiveBack g)
      × In g s.made)
  pub gives_old : (y : Message) → In y m.gives.gives → In y l.gives.gives
  pub gives_new : (g : Give) → In g s.made → (y : Message) × In y l.gives.gives × (y.body ≡ GiveBack g)
  pub last_up : (fs : FilesetId) → last_of m.gives.counters fs ≤ last_of l.gives.counters fs
  pub last_new : (g : Give) → In g s.made → g.number ≤ last_of l.gives.counters g.fid.fileset
  pub last_is : (fs : FilesetId) → (last_of l.gives.counters fs ≡ last_of m.gives.counters fs)
      ⊎ ((g : Give) × In g s.made × (g.fid.fileset ≡ fs) × (g.number ≡ last_of l.gives.counters fs))
  pub leaving_old : (y : Leaving) → In y m.leaving → In y l.leaving
  pub leaving_new : (g : Give) (t : Token) → In g s.made → In t (held_of m) → In t.id g.ids
      → In (record { fileset = g.fid.fileset; number = g.number; token = t }) l.leaving
  pub leaving_from : (y : Leaving) → In y l.leaving → In y m.leaving
      ⊎ ((g : Give) × In g s.made × In y.token (held_of m)
      × In y.token.id g.ids × (y.fileset ≡ g.fid.fileset) × (y.number ≡ g.number))
  pub ends : EndsBy m l past s
  pub labels : LabelsStand (own_of (with_left m l))

abbrev pub LeavingSettles : Type 0
LeavingSettles = (script : Script) (m : Tables) (l : Left) (x : Moved) (past : List Step) (s : Step)
    → Stands script m (half s ∷ past) → HostMay script m.host past s
    → ((fid : Fid) (at : ℕ) → is_dirty past fid at ≡ true → OwnsUpdate past fid at)
    → IsSilent s → LeavesRight m l past s → Keeping m past s (tokens_of l.cache.held)
    → GivesBack m past s (tokens_of l.cache.held) → MovesRight m x past s
    → Settled script m (with_moved (with_left m l) x) past s
