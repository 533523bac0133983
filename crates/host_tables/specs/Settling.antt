-- What becomes of the tables by all that a step does once it has learnt and taken.
use Rattle.host_tables.specs.Stands.{LostStands}
use Rattle.base_types.specs.declared.ids.Fid.{Fid}
use Rattle.base_types.specs.declared.ids.FilesetId.{FilesetId}
use Rattle.base_types.specs.declared.ids.ServerId.{ServerId}
use Rattle.base_types.specs.declared.limits.TheConstants.{FILE_BYTES_MAX}
use Rattle.host_cache.specs.Holding.{is_status}
use Rattle.host_cache.specs.declared.held.Held.{Held}
use Rattle.host_dirty.specs.Dirtiness.{is_dirty as is_dirty_in}
use Rattle.host_gives.specs.Counters.{last_of}
use Rattle.host_labels.specs.Labels.{is_pinned}
use Rattle.host_labels.specs.declared.uses.Labelled.{Labelled as UseOf}
use Rattle.host_tables.specs.Half.{half}
use Rattle.host_tables.specs.Stands.{LabelsStand, LeavingStands, NumbersStand, OrderStands, PartedStands}
use Rattle.host_tables.specs.Stands.{RequestStands, Stands}
use Rattle.host_tables.specs.Tables.{content, held_of, is_shown_by, labelled, length_given, own_of, site_at}
use Rattle.host_tables.specs.declared.tables.Tables.{Tables}
use Rattle.message_types.specs.declared.asking.Fetch.{Fetch as FetchOf}
use Rattle.message_types.specs.declared.giving.Give.{Give}
use Rattle.message_types.specs.declared.giving.Reclaimed.{Reclaimed as ReclaimedOf}
use Rattle.message_types.specs.declared.message.Body.TheVariants.{Bye, Fetch, GiveBack, Hello, Reclaimed}
use Rattle.message_types.specs.declared.message.Message.{Message}
use Rattle.run_rules.specs.HostMay.{ClaimsAt, TakenBefore}
use Rattle.run_rules.specs.HostTokens.{OwnsUpdate}
use Rattle.run_rules.specs.Messages.{Comes, HasKeptToken, HasSaid, Says, Sends, Stops}
use Rattle.run_rules.specs.HostMay.{HostMay}
use Rattle.run_rules.specs.Past.{In}
use Rattle.run_rules.specs.Tokens.{Drops, EndsUse, GivesUse, HoldsId, IsKnown, IsUseKind, LabelInUse, TokenInUse}
use Rattle.run_rules.specs.Tokens.{calls_begun}
use Rattle.run_rules.specs.Views.{HasLength, changed_by_writes, gives_at, is_dirty, writes_at}
use Rattle.run_rules.specs.declared.applied.Answer.{Answer as AnswerOf}
use Rattle.run_rules.specs.declared.step.Asked.{Asked}
use Rattle.run_rules.specs.declared.step.Labelled.{Labelled}
use Rattle.run_rules.specs.declared.step.Step.{Step}
use Rattle.script_lines.specs.declared.script.Script.{Script}
use Rattle.std.specs.Prelude.{List, Some, false, not, true, ℕ, ◌&&◌, ◌++◌, ◌<◌, ◌||◌, ◌↔◌, ◌∷◌, ◌≡◌, ◌≤◌, ◌⊎◌}
use Rattle.token_types.specs.declared.token.Token.{Token}
use Rattle.token_types.specs.declared.token.TokenId.{TokenId}
use Rattle.tree_laws.specs.Parts.{Part}
use Rattle.tree_laws.specs.Parts.Part.{ByteAt}

-- the messages, and the numbers, of what the step asks
abbrev pub FetchesIt : Step → FetchOf → Type 0
FetchesIt s f = (v : ServerId) × (e n : ℕ) × Sends s v e n (Fetch f)

pub record Settled (script : Script) (m new : Tables) (past : List Step) (s : Step) : Type 0 where
  pub host : new.host ≡ m.host
  pub user : new.user ≡ m.user
  pub limit : new.limit ≡ m.limit
  pub no_stop : Stops s → ⊥
  -- tokens: those that aren't dropped stay, and their marks say what is in use
  pub stay : (t : Token) → In t (held_of new) → In t (held_of m) × (Drops s t → ⊥)
  pub all : (t : Token) → In t (held_of m) → In t (held_of new) ⊎ Drops s t
  pub marked : (h : Held) → In h new.cache.held → h.in_use ≡ true → TokenInUse (s ∷ past) h.token.id
  pub unmarked : (h : Held) → In h new.cache.held → h.in_use ≡ false → TokenInUse (s ∷ past) h.token.id → ⊥
  pub tells : (h : Held) → In h new.cache.held → is_status h.token.kind ≡ true → h.tells ≡ true
  pub content_is : (fid : Fid) (part : Part) → is_shown_by (held_of new) fid part ≡ true
      → content new.cache fid part ≡ changed_by_writes s (content m.cache) fid part
  pub beyond : (fid : Fid) (at : ℕ) → FILE_BYTES_MAX ≤ at
      → content new.cache fid (ByteAt at) ≡ changed_by_writes s (content m.cache) fid (ByteAt at)
  pub zero : (fid : Fid) (at : ℕ) → FILE_BYTES_MAX ≤ at → content new.cache fid (ByteAt at) ≡ 0
  pub order : OrderStands script.roster new.host new.cache.held (s ∷ past)
  -- dirty bytes; before the step each lay under a token
  pub dirty_before : (fid : Fid) (at : ℕ) → is_dirty past fid at ≡ true → OwnsUpdate past fid at
  pub dirty : (fid : Fid) (at : ℕ) → is_dirty_in new.dirty fid at
      ≡ ((writes_at s fid at || is_dirty_in m.dirty fid at) && not (gives_at s fid at))
  pub written : (fid : Fid) (at : ℕ) → writes_at s fid at ≡ true → OwnsUpdate (s ∷ past) fid at × (at < FILE_BYTES_MAX)
  -- lengths
  pub length_new : (g : Give) (n : ℕ) → In g s.made → g.length ≡ Some n
      → length_given new.lengths g.fid ≡ Some (record { fid = g.fid; number = g.number; length = n; known = false })
  pub length_old : (fid : Fid) → ((g : Give) → In g s.made → HasLength g fid → ⊥)
      → length_given new.lengths fid ≡ length_given m.lengths fid
  -- labels
  pub label_is : (u : UseOf) → In u new.uses.labels → In (labelled u) s.begun
      ⊎ (In u m.uses.labels × (EndsUse s (labelled u) → ⊥) × ((g : Give) → In g s.made → GivesUse g (labelled u) → ⊥))
  pub is_label : (u : UseOf) → In (labelled u) s.begun
      ⊎ (In u m.uses.labels × (EndsUse s (labelled u) → ⊥) × ((g : Give) → In g s.made → GivesUse g (labelled u) → ⊥))
      → In u new.uses.labels
  pub begun_held : (u : Labelled) → In u s.begun → In u.token (held_of new) × IsUseKind u.token.kind
  pub used_stay : (u : Labelled) → LabelInUse (s ∷ past) u → Drops s u.token → ⊥
  pub pinned : (u : Labelled) → LabelInUse (s ∷ past) u → is_pinned new.uses u.token.id ≡ true
      → HasKeptToken (s ∷ past) u.token.id
  pub kept : (u : Labelled) → LabelInUse (s ∷ past) u → HasKeptToken (s ∷ past) u.token.id
      → is_pinned new.uses u.token.id ≡ true
  pub kept_used : (i : TokenId) → HasKeptToken (s ∷ past) i → HoldsId (s ∷ past) i → TokenInUse (s ∷ past) i
  pub label_order : (before behind : List UseOf) (first later : UseOf) → new.uses.labels ≡ before ++ first ∷ behind
      → In later (first ∷ behind) → TakenBefore (s ∷ past) (labelled later) (labelled first) → ⊥
  pub labels : LabelsStand (own_of new)
  -- give-backs
  pub gives_from : (x : Message) → In x new.gives.gives → In x m.gives.gives ⊎ ((g : Give) × (x.body ≡ GiveBack g)
      × In g s.made)
  pub gives_old : (x : Message) → In x m.gives.gives → In x new.gives.gives
  pub gives_new : (g : Give) → In g s.made → (x : Message) × In x new.gives.gives × (x.body ≡ GiveBack g)
  pub unknown : (g : Give) → In g s.made → IsKnown (s ∷ past) g → ⊥
  pub last_up : (fs : FilesetId) → last_of m.gives.counters fs ≤ last_of new.gives.counters fs
  pub last_new : (g : Give) → In g s.made → g.number ≤ last_of new.gives.counters g.fid.fileset
  pub last_is : (fs : FilesetId) → (last_of new.gives.counters fs ≡ last_of m.gives.counters fs)
      ⊎ ((g : Give) × In g s.made × (g.fid.fileset ≡ fs) × (g.number ≡ last_of new.gives.counters fs))
  pub leaving : LeavingStands new.leaving new.ending (s ∷ past)
  -- what is known of servers
  pub floors : new.floors ≡ m.floors
  pub site_epoch : (v : ServerId) → (site_at new.sites v).epoch ≡ (site_at m.sites v).epoch
  pub site_welcome : (v : ServerId) → (site_at new.sites v).welcome ≡ (site_at m.sites v).welcome
  pub site_has_bye : (v : ServerId) → (site_at new.sites v).has_bye ≡ (site_at m.sites v).has_bye
  pub site_greeted : (v : ServerId) → (site_at new.sites v).greeted ≡ true ↔ (((site_at m.sites v).greeted ≡ true)
      ⊎ Says s v Hello)
  pub site_said_bye : (v : ServerId) → (site_at new.sites v).said_bye ≡ true ↔ (((site_at m.sites v).said_bye ≡ true)
      ⊎ Says s v Bye)
  pub site_claimed : (v : ServerId) → (site_at new.sites v).claimed ≡ true ↔ (((site_at m.sites v).claimed ≡ true)
      ⊎ ClaimsAt s v)
  -- a claim isn't made where one is answered
  pub claims_apart : (v : ServerId) (a : ReclaimedOf) → ClaimsAt s v → Comes past s v (Reclaimed a) → ⊥
  -- requests
  pub request : RequestStands new.request (s ∷ past)
  pub numbers : NumbersStand new.fetched new.changed (s ∷ past)
  pub homes : new.homes ≡ m.homes
  -- the call
  pub call_from : (c : Asked) → new.call ≡ Some c → (s.asked ≡ Some c)
      ⊎ ((m.call ≡ Some c) × ((a : AnswerOf) → In a s.answers → a.k ≡ c.k → ⊥))
  pub call_asked : (c : Asked) → s.asked ≡ Some c → new.call ≡ Some c
  pub call_stays : (c : Asked) → m.call ≡ Some c → ((a : AnswerOf) → In a s.answers → a.k ≡ c.k → ⊥) → new.call ≡ Some c
  pub begun : new.begun ≡ calls_begun (s ∷ past)
  pub lost : LostStands new.lost new.call (s ∷ past)
  pub parted : (v : ServerId) → HasSaid (s ∷ past) v Bye → PartedStands new.request new.call v (s ∷ past)

-- the tables stand after the step
abbrev pub SettlesRight : Type 0
SettlesRight = (script : Script) (m new : Tables) (past : List Step) (s : Step) → Stands script m (half s ∷ past)
    → HostMay script m.host past s → Settled script m new past s → Stands script new (s ∷ past)
