-- Whole steps in which a call is answered: what becomes of the tables by them.
use Rattle.base_types.specs.declared.ids.Fid.{Fid}
use Rattle.base_types.specs.declared.ids.ServerId.{ServerId}
use Rattle.base_types.specs.declared.limits.TheConstants.{FILE_BYTES_MAX}
use Rattle.host_cache.specs.Seen.{Kept}
use Rattle.host_cache.specs.declared.held.Held.{Held}
use Rattle.host_dirty.specs.Dirtiness.{is_dirty as is_dirty_in}
use Rattle.host_dirty.specs.declared.dirty.Dirty.{Dirty}
use Rattle.host_labels.specs.Labels.{InUse as InUseOf, is_pinned}
use Rattle.host_labels.specs.declared.uses.Labelled.{Labelled as UseOf}
use Rattle.host_tables.specs.Half.{half}
use Rattle.host_tables.specs.Machine.{StepRight}
use Rattle.host_tables.specs.Quiet.{Moved, with_moved}
use Rattle.host_tables.specs.Settling.{Settled}
use Rattle.host_tables.specs.Stands.{LabelsStand, NumbersStand, OrderStands, RequestStands, Stands}
use Rattle.host_tables.specs.Tables.{content, held_of, labelled, own_of}
use Rattle.host_tables.specs.WholeSteps.{SitesMove}
use Rattle.host_tables.specs.declared.tables.Tables.{Tables}
use Rattle.message_types.specs.declared.message.Body.TheVariants.{Bye}
use Rattle.run_rules.specs.HostMay.{HostMay}
use Rattle.run_rules.specs.HostTokens.{OwnsUpdate}
use Rattle.run_rules.specs.Messages.{HasSaid, KeepsToken, Stops}
use Rattle.run_rules.specs.Past.{In}
use Rattle.run_rules.specs.Tokens.{EndsUse, IsUseKind}
use Rattle.run_rules.specs.Views.{UpdatesByte, changed_by_writes, is_dirty, writes_at}
use Rattle.run_rules.specs.declared.applied.Answer.{Answer as AnswerOf}
use Rattle.run_rules.specs.declared.step.Asked.{Asked}
use Rattle.run_rules.specs.declared.step.Labelled.{Labelled}
use Rattle.run_rules.specs.declared.step.Step.{Step}
use Rattle.script_lines.specs.declared.script.Script.{Script}
use Rattle.std.specs.Prelude.{Bool, List, None, Some, [], false, filter, true, ℕ, ◌++◌, ◌+◌, ◌<◌, ◌||◌, ◌∷◌, ◌≡◌, ◌≤◌}
use Rattle.token_types.specs.declared.token.Token.{Token}
use Rattle.token_types.specs.declared.token.TokenId.{TokenId}
use Rattle.tree_laws.specs.Parts.{Part}
use Rattle.tree_laws.specs.Parts.Part.{ByteAt}

-- what may change of the tables, beside what is known of servers, requests and the call
pub record AnsweredBy : Type 0 where
  pub cache : Kept
  pub dirty : Dirty
  pub uses : InUseOf

abbrev pub with_answered : Tables → AnsweredBy → Tables
with_answered m w = record m { cache = w.cache; dirty = w.dirty; uses = w.uses }

-- The call of the answer: it begins in the step, and none was open; or it was open.
pub data IsCallOf (m : Tables) (x : Moved) (a : AnswerOf) : Type 0 where
  AtOnce : m.call ≡ None → a.first ≡ true → x.call ≡ None → x.begun ≡ m.begun + 1 → IsCallOf m x a
  Later : (c : Asked) → m.call ≡ Some c → a.k ≡ c.k → a.first ≡ false → x.call ≡ None → x.begun ≡ m.begun
      → IsCallOf m x a

-- that is what the step makes of them
pub record AnswerRight (script : Script) (m : Tables) (w : AnsweredBy) (x : Moved) (past : List Step) (s : Step)
    (a : AnswerOf)
    : Type 0 where
  pub answers : s.answers ≡ a ∷ []
  pub asked : s.asked ≡ None
  pub made : s.made ≡ []
  pub dropped : s.dropped ≡ []
  pub none_kept : (i : TokenId) → KeepsToken s i → ⊥
  pub no_stop : Stops s → ⊥
  pub is_call : IsCallOf m x a
  -- the same tokens, in the order of use, and those are marked that a label uses
  pub held_from : (h : Held) → In h w.cache.held → (k : Held) × In k m.cache.held × (k.token ≡ h.token)
      × (k.tells ≡ h.tells)
  pub held_to : (k : Held) → In k m.cache.held → (h : Held) × In h w.cache.held × (h.token ≡ k.token)
  pub marked : (h : Held) → In h w.cache.held → h.in_use ≡ true → (u : UseOf) × In u w.uses.labels
      × (u.token.id ≡ h.token.id)
  pub marks : (h : Held) (u : UseOf) → In h w.cache.held → In u w.uses.labels → u.token.id ≡ h.token.id
      → h.in_use ≡ true
  pub order : OrderStands script.roster m.host w.cache.held (s ∷ past)
  -- what is written
  pub content_is : (fid : Fid) (part : Part) → content w.cache fid part ≡ changed_by_writes s (content m.cache) fid part
  pub zero : (fid : Fid) (at : ℕ) → FILE_BYTES_MAX ≤ at → content w.cache fid (ByteAt at) ≡ 0
  pub dirty : (fid : Fid) (at : ℕ) → is_dirty_in w.dirty fid at ≡ (writes_at s fid at || is_dirty_in m.dirty fid at)
  pub written : (fid : Fid) (at : ℕ) → writes_at s fid at ≡ true
      → ((t : Token) × In t (held_of m) × UpdatesByte t fid at) × (at < FILE_BYTES_MAX)
  -- a label that is taken is the last one, and was not in use; one whose use ends is no more
  pub keeps_label : UseOf → Bool
  pub taken_label : List UseOf
  pub labels_are : w.uses.labels ≡ filter keeps_label m.uses.labels ++ taken_label
  pub label_kept : (u : UseOf) → In u m.uses.labels → (EndsUse s (labelled u) → ⊥) → keeps_label u ≡ true
  pub label_ended : (u : UseOf) → keeps_label u ≡ true → EndsUse s (labelled u) → ⊥
  pub is_taken : (u : UseOf) → In u taken_label → In (labelled u) s.begun
  pub begins : (u : Labelled) → In u s.begun → In (record { label = u.label; token = u.token }) taken_label
      × In u.token (held_of m) × IsUseKind u.token.kind
  pub one_taken : (u v : UseOf) (us vs : List UseOf) → taken_label ≡ us ++ u ∷ vs → In v vs → ⊥
  pub fresh : (u : UseOf) → In (labelled u) s.begun → In u m.uses.labels → ⊥
  -- pins stay; a taken token is pinned where another label uses it
  pub pins : (i : TokenId) → is_pinned w.uses i ≡ is_pinned m.uses i
  pub pinned_before : (u : Labelled) → In u s.begun → is_pinned m.uses u.token.id ≡ true
      → (v : UseOf) × In v m.uses.labels × (v.token.id ≡ u.token.id)
  -- the last use of a pinned token isn't ended so
  pub frees : (u : UseOf) → In u m.uses.labels → is_pinned m.uses u.token.id ≡ true
      → (v : UseOf) × In v m.uses.labels × (keeps_label v ≡ true) × (v.token.id ≡ u.token.id)
  pub labels : LabelsStand (own_of (with_answered m w))
  pub no_bye : (v : ServerId) → HasSaid (s ∷ past) v Bye → ⊥

-- what it says changes what is known of servers and requests as told
pub record SaysMove (m : Tables) (x : Moved) (past : List Step) (s : Step) : Type 0 where
  pub sites : SitesMove m x past s
  pub request : RequestStands x.request (s ∷ past)
  pub numbers : NumbersStand x.fetched x.changed (s ∷ past)

abbrev pub AnswerSettles : Type 0
AnswerSettles = (script : Script) (m : Tables) (w : AnsweredBy) (x : Moved) (past : List Step) (s : Step) (a : AnswerOf)
    → Stands script m (half s ∷ past) → ((fid : Fid) (at : ℕ) → is_dirty past fid at ≡ true → OwnsUpdate past fid at)
    → HostMay script m.host past s → AnswerRight script m w x past s a → SaysMove m x past s
    → Settled script m (with_moved (with_answered m w) x) past s

-- the step is right, where it does what it may
abbrev pub AnswerStepRight : Type 0
AnswerStepRight = (script : Script) (old m : Tables) (w : AnsweredBy) (x : Moved) (past : List Step) (s : Step)
    (a : AnswerOf)
    → old.host ≡ m.host → ((fid : Fid) (at : ℕ) → is_dirty past fid at ≡ true → OwnsUpdate past fid at)
    → Stands script m (half s ∷ past) → HostMay script m.host past s → AnswerRight script m w x past s a
    → SaysMove m x past s
    → x.request ≡ None → StepRight script old (with_moved (with_answered m w) x) past s
