-- What a step gives back, by the tables: the host has learnt and taken, and these tokens are left after the step.
use Rattle.std.specs.Prelude.{[]}
use Rattle.message_types.specs.Soundness.{PiecesRise}
use Rattle.base_types.specs.declared.ids.Fid.{Fid}
use Rattle.host_dirty.specs.Dirtiness.{is_dirty as is_dirty_in}
use Rattle.host_gives.specs.Counters.{last_of}
use Rattle.host_tables.specs.Half.{half}
use Rattle.host_tables.specs.Stands.{Stands}
use Rattle.host_tables.specs.Tables.{content, held_of, is_length_clean, is_length_dirty, updates_status}
use Rattle.host_tables.specs.declared.tables.Tables.{Tables}
use Rattle.message_types.specs.declared.giving.Ends.{Ends}
use Rattle.message_types.specs.declared.giving.Give.{Give}
use Rattle.message_types.specs.declared.message.Body.TheVariants.{GiveBack}
use Rattle.run_rules.specs.HostTokens.{GivesByte, HostGives}
use Rattle.run_rules.specs.Messages.{HasStopped, SendsTo, stay_of}
use Rattle.run_rules.specs.Past.{In}
use Rattle.run_rules.specs.Tokens.{FreesPinned, GivesUse, IsOpen, IsOutstanding, LabelInUse, Owns, end_of, number_of}
use Rattle.run_rules.specs.Views.{UpdatesByte, byte_of}
use Rattle.run_rules.specs.declared.step.Labelled.{Labelled}
use Rattle.run_rules.specs.declared.step.Step.{Step}
use Rattle.script_lines.specs.declared.script.Script.{Script}
use Rattle.std.specs.Prelude.{List, None, Some, false, if◌then◌else◌, suc, true, ℕ, ◌+◌, ◌<◌, ◌∷◌, ◌≡◌, ◌⊎◌}
use Rattle.token_types.specs.declared.token.Token.{Token}
use Rattle.token_types.specs.declared.token.TokenId.{TokenId}
use Rattle.tree_laws.specs.Parts.Part.{ByteAt, Size}

pub record GivesBack (m : Tables) (past : List Step) (s : Step) (kept : List Token) : Type 0 where
  -- it names a token, and its pieces rise
  pub names : (g : Give) → In g s.made → g.ids ≡ [] → ⊥
  pub rise : (g : Give) → In g s.made → PiecesRise g.pieces
  -- one give-back a file, of tokens of the file that are held; numbered one by one
  pub ids : (g : Give) (i : TokenId) → In g s.made → In i g.ids
      → (t : Token) × In t (held_of m) × (t.id ≡ i) × (t.fid ≡ g.fid)
  pub one : (g k : Give) → In g s.made → In k s.made → g.fid ≡ k.fid → g ≡ k
  pub above : (g : Give) → In g s.made → last_of m.gives.counters g.fid.fileset < g.number
  pub next : (g : Give) → In g s.made → (g.number ≡ last_of m.gives.counters g.fid.fileset + 1)
      ⊎ ((k : Give) × In k s.made × (k.fid.fileset ≡ g.fid.fileset) × (suc k.number ≡ g.number))
  pub apart : (g k : Give) → In g s.made → In k s.made → number_of g ≡ number_of k → g ≡ k
  -- the dirty bytes, each under a token that it names and under none that is left
  pub has : (g : Give) (at x : ℕ) → In g s.made → byte_of g.pieces at ≡ Some x
      → (is_dirty_in m.dirty g.fid at ≡ true) × (content m.cache g.fid (ByteAt at) ≡ x)
      × ((t : Token) × In t (held_of m) × In t.id g.ids × UpdatesByte t g.fid at)
      × ((t : Token) → In t kept → UpdatesByte t g.fid at → ⊥)
  -- and all of them
  pub saves : (t : Token) (fid : Fid) (at : ℕ) → is_dirty_in m.dirty fid at ≡ true → In t (held_of m)
      → UpdatesByte t fid at
      → ((u : Token) × In u kept × UpdatesByte u fid at) ⊎ ((g : Give) × In g s.made × GivesByte g fid at)
  -- the length, where that is dirty
  pub length_is : (g : Give) → In g s.made
      → g.length ≡ (if is_length_dirty (held_of m) m.lengths (content m.cache) g.fid
      then Some (content m.cache g.fid Size) else None)
  pub saves_length : (t : Token) → In t (held_of m) → updates_status t.kind ≡ true
      → is_length_clean m.lengths (content m.cache) t.fid ≡ false
      → In t kept ⊎ ((g : Give) × In g s.made × (g.fid ≡ t.fid) × In t.id g.ids)
  -- a label whose use it ends
  pub ends : (g : Give) (ends : Ends) → In g s.made → g.ends ≡ Some ends
      → ((u : Labelled) × FreesPinned past u × (ends.call ≡ end_of u) × In u.token.id g.ids)
      × IsOpen (s ∷ past) (record { k = ends.k; call = ends.call })
  pub ends_used : (g : Give) (u : Labelled) → In g s.made → LabelInUse past u → In u.token.id g.ids → GivesUse g u
  pub sends : (g : Give) → IsOutstanding (s ∷ past) g → (IsOutstanding past g → ⊥) → (HasStopped (s ∷ past) → ⊥)
      → SendsTo s (stay_of (s ∷ past) g.fid.fileset) (GiveBack g)

abbrev pub GivesAreRight : Type 0
GivesAreRight = (script : Script) (m : Tables) (past : List Step) (s : Step) (learnt : Stands script m (half s ∷ past))
    (kept : List Token) → ((t : Token) → In t kept → Owns (s ∷ past) t) → ((t : Token) → Owns (s ∷ past) t → In t kept)
    → GivesBack m past s kept → HostGives past s
