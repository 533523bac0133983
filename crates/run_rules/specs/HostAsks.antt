-- What a host asks for, for its open call: one request at a time, under the tokens that it keeps. `past` is the host's
-- own earlier steps.
use Rattle.std.specs.Prelude.{Bool, IsTrue, List, Some, [], false, suc, true, ℕ, ◌/◌, ◌<◌, ◌∷◌, ◌≡◌, ◌⊎◌}
use Rattle.base_types.specs.Spans.{has_byte}
use Rattle.base_types.specs.declared.ids.Fid.{Fid}
use Rattle.base_types.specs.declared.ids.FilesetId.{FilesetId}
use Rattle.base_types.specs.declared.ids.HostId.{HostId}
use Rattle.base_types.specs.declared.ids.ServerId.{ServerId}
use Rattle.base_types.specs.declared.limits.TheConstants.{TOKEN_BYTES}
use Rattle.base_types.specs.declared.span.Span.{Span}
use Rattle.tree_calls.specs.declared.call.Call.{Call}
use Rattle.tree_calls.specs.declared.roster.Roster.{Roster}
use Rattle.tree_laws.specs.Parts.{Nature}
use Rattle.tree_laws.specs.Parts.Part.{Traits}
use Rattle.tree_objects.specs.Spans.{whole}
use Rattle.token_types.specs.Covers.{Covers}
use Rattle.token_types.specs.declared.token.Kind.TheVariants.{Bytes, Status}
use Rattle.token_types.specs.declared.token.Need.{Need}
use Rattle.token_types.specs.declared.token.Token.{Token}
use Rattle.message_types.specs.Soundness.{no_fid}
use Rattle.message_types.specs.declared.asking.Change.{Change as ChangeOf}
use Rattle.message_types.specs.declared.asking.Fetch.{Fetch as FetchOf}
use Rattle.message_types.specs.declared.giving.Give.{Give}
use Rattle.message_types.specs.declared.message.Body.TheVariants.{Change, Fetch}
use Rattle.need_host.specs.Calls.Verdict.{Asks, Gives}
use Rattle.need_host.specs.Looks.{IsCovered, IsFirstLack}
use Rattle.need_host.specs.Questions.{Question, numbered_under}
use Rattle.need_host.specs.Questions.Question.{ChangeIn}
use Rattle.need_host.specs.Walks.{root_of}
use Rattle.run_rules.specs.Messages.{Asking, Changing, HasGreeted, HasStopped, IsWelcome, Said, Sends, SendsFetch}
use Rattle.run_rules.specs.Messages.{stay_of}
use Rattle.run_rules.specs.Past.{In, Since}
use Rattle.run_rules.specs.Tokens.{BeginsCall, GiveOpen, Held, IsKnown, IsOpen, IsUseKind, Made}
use Rattle.run_rules.specs.Views.{Stance, is_dirty, is_entering, look_of, needs_in, sees, stay_asked, verdict_in}
use Rattle.run_rules.specs.declared.applied.Why.TheVariants.{Revoked}
use Rattle.run_rules.specs.declared.step.Asked.{Asked}
use Rattle.run_rules.specs.declared.step.Step.{Step}

-- a Fetch, a Change that was sent, wherever and in whatever epoch
abbrev pub HasFetched : List Step → FetchOf → Type 0
HasFetched past f = (v : ServerId) × (e n : ℕ) × Said past v e n (Fetch f)

abbrev pub HasChanged : List Step → ServerId → ChangeOf → Type 0
HasChanged past server c = (v : ServerId) × (e n : ℕ) × Said past v e n (Change c) × (c.fileset.0 ≡ 0 → v ≡ server)

-- a number that Fetches of a fileset, Changes of a fileset, have had
abbrev pub IsFetchNumber : List Step → FilesetId → ℕ → Type 0
IsFetchNumber past fileset n = (f : FetchOf) × HasFetched past f × (f.fid.fileset ≡ fileset) × (f.number ≡ n)

abbrev pub IsChangeNumber : List Step → ServerId → FilesetId → ℕ → Type 0
IsChangeNumber past server fileset n =
    (c : ChangeOf) × HasChanged past server c × (c.fileset ≡ fileset) × (c.number ≡ n)

-- the number is the next one after some: they begin at 1
pub record IsNextNumber (IsNumber : ℕ → Type 0) (n : ℕ) : Type 0 where
  pub above : (m : ℕ) → IsNumber m → m < n
  pub after : (n ≡ 1) ⊎ ((m : ℕ) × IsNumber m × (suc m ≡ n))

-- the object is a directory: it is a root, or the host sees it under a token
abbrev pub IsDirectory : List Step → Step → List Token → Fid → Type 0
IsDirectory past s held fid =
    (fid ≡ root_of fid.fileset)
    ⊎ (Covers held (record { fid = fid; kind = Status false })
    × ((nature : Nature) × (sees past s fid Traits ≡ Some nature) × (nature.dir ≡ true)))

-- a token of a file's status, for reading or for update
abbrev pub ShowsStatus : Token → Fid → Type 0
ShowsStatus token fid = (token.fid ≡ fid) × ((update : Bool) × (token.kind ≡ Status update))

-- a Revoke takes from the host the last token that it holds of the file's status
abbrev pub LosesStatus : List Step → Step → Fid → Type 0
LosesStatus past s fid =
    ((token : Token) × In (record { token = token; why = Revoked }) s.dropped × ShowsStatus token fid)
    × ((token : Token) → Held (s ∷ past) token → ShowsStatus token fid → ⊥)

-- one has done so since the host's last call began
abbrev pub HasLost : List Step → Fid → Type 0
HasLost past fid = Since (λ before s. LosesStatus before s fid)
    (λ before s. (k : ℕ) × (call : Call) × BeginsCall s k call) past

-- needs of bytes name the position, for reading or for update
abbrev pub NamesByte : List Need → Fid → Bool → ℕ → Type 0
NamesByte needs fid update at = (span : Span)
    × In (record { fid = fid; kind = Bytes update span }) needs × IsTrue (has_byte span at)

-- something is dirty in the block of the position
abbrev pub InDirtyBlock : List Step → Fid → ℕ → Type 0
InDirtyBlock past fid at =
    (other : ℕ) × (other / TOKEN_BYTES ≡ at / TOKEN_BYTES) × (is_dirty past fid other ≡ true)

-- of a status for update is asked where the call needs one, and of one for reading once more where it was lost
abbrev pub AsksStatus : List Step → List Need → Fid → Bool → Type 0
AsksStatus past needs fid true = In (record { fid = fid; kind = Status true }) needs
AsksStatus past needs fid false =
    HasLost past fid × (In (record { fid = fid; kind = Status true }) needs → ⊥)

-- What is asked of a file whose status is held: all bytes that the call needs, held or not, but for blocks in which
-- something is dirty; and of the status, where none for update is held, one for update if the call needs it, else one
-- for reading if a Revoke took the last. If only what is missing were asked for, two hosts could take two blocks of a
-- file from each other for ever: of 60 runs in which five hosts write over the ends of blocks, 36 had no end so, and
-- none has with this rule, at as many messages. That is no matter of safety: no law of safety refuses it.
pub record FileNeeds
    (past : List Step) (held : List Token) (needs : List Need) (fid : Fid) (asked : List Need) : Type 0 where
  pub only : (n : Need) → In n asked → (n.fid ≡ fid) × (IsUseKind n.kind → ⊥)
  pub bytes : (update : Bool) (at : ℕ) → NamesByte asked fid update at
      → NamesByte needs fid update at × (InDirtyBlock past fid at → ⊥)
  pub bytes_all : (update : Bool) (at : ℕ) → NamesByte needs fid update at → (InDirtyBlock past fid at → ⊥)
      → NamesByte asked fid update at
  pub status : (update : Bool) → In (record { fid = fid; kind = Status update }) asked
      → AsksStatus past needs fid update × (Covers held (record { fid = fid; kind = Status true }) → ⊥)
  pub status_all : (update : Bool) → AsksStatus past needs fid update
      → (Covers held (record { fid = fid; kind = Status true }) → ⊥)
      → In (record { fid = fid; kind = Status update }) asked

-- What a Fetch asks for. Of a directory, its status and all its entries together; of another object whose status
-- isn't held, that alone; else what the call needs of the file.
pub data FetchNeeds
    (past : List Step) (s : Step) (held : List Token) (needs : List Need) (fid : Fid) (asked : List Need) : Type 0 where
  OfDirectory : IsDirectory past s held fid
      → asked ≡ record { fid = fid; kind = Status false } ∷ record { fid = fid; kind = Bytes false whole } ∷ []
      → FetchNeeds past s held needs fid asked
  OfUnknown : (IsDirectory past s held fid → ⊥) → (Covers held (record { fid = fid; kind = Status false }) → ⊥)
      → asked ≡ record { fid = fid; kind = Status false } ∷ [] → FetchNeeds past s held needs fid asked
  OfFile : (IsDirectory past s held fid → ⊥) → Covers held (record { fid = fid; kind = Status false })
      → FileNeeds (s ∷ past) held needs fid asked → FetchNeeds past s held needs fid asked

module _ (roster : Roster) (host : HostId) (past : List Step) (s : Step) (stance : Stance roster host past s) where
  -- the first need of the call that the kept tokens lack
  abbrev pub FirstLack : Call → Need → Type 0
  FirstLack call need = IsFirstLack stance.kept (needs_in stance call) need

  -- what a server is asked about the call: what the host itself can't tell, once its needs are met; or the lock or
  -- open token that it lacks alone
  abbrev pub AsksServer : Call → Question → Fid → Type 0
  AsksServer call question fid =
      ((verdict_in stance call ≡ Asks question)
      × IsCovered stance.kept (sees past s) (look_of stance call) × (fid ≡ no_fid))
      ⊎ ((need : Need) × FirstLack call need × IsUseKind need.kind × (need.fid ≡ fid)
      × (question ≡ ChangeIn need.fid.fileset))

  -- A Fetch is new: it is for the first object of the open call that lacks a token, and for what it lacks, and no
  -- give-back of the object is on its way.
  pub record IsNewFetch (f : FetchOf) : Type 0 where
    pub next : IsNextNumber (IsFetchNumber past f.fid.fileset) f.number
    pub no_give : GiveOpen (s ∷ past) f.fid → ⊥
    pub call : Asked
    pub is_open : IsOpen (s ∷ past) call
    pub need : Need
    pub fetched : IsUseKind need.kind → ⊥
    pub file : need.fid ≡ f.fid
    pub first : FirstLack call.call need
    pub needs : FetchNeeds past s stance.kept (needs_in stance call.call) f.fid f.needs

  -- A Change is new: it asks the server about the open call.
  pub record IsNewChange (v : ServerId) (n : ℕ) (c : ChangeOf) : Type 0 where
    pub next : IsNextNumber (IsChangeNumber past v c.fileset) c.number
    pub is_open : IsOpen (s ∷ past) (record { k = c.k; call = c.call })
    pub question : Question
    pub asks : AsksServer c.call question c.fid
    pub enters : c.enter ≡ is_entering question
    pub numbered : c.fileset ≡ numbered_under question
    pub goes : stay_asked (s ∷ past) question ≡ record { server = v; moves = n }

  -- The open call waits for a Gone: of the object that it lacks a token of, or of what it gave back itself.
  abbrev pub AwaitsGone : Call → Type 0
  AwaitsGone call =
      ((need : Need) × FirstLack call need × GiveOpen (s ∷ past) need.fid)
      ⊎ ((verdict_in stance call ≡ Gives) × ((give : Give) × Made (s ∷ past) give × (IsKnown (s ∷ past) give → ⊥)))

  -- the server that the open call goes to next, as far as the host knows
  abbrev pub GoesTo : Call → ServerId → Type 0
  GoesTo call v =
      ((need : Need) × FirstLack call need × ((stay_of (s ∷ past) need.fid.fileset).server ≡ v))
      ⊎ ((question : Question) × (fid : Fid) × AsksServer call question fid
      × ((stay_asked (s ∷ past) question).server ≡ v))

  pub record HostAsks : Type 0 where
    -- a Fetch is a repeat of one that is outstanding, or it is new; so is a Change
    pub fetches : (f : FetchOf) → SendsFetch s f
        → (HasFetched past f × Asking past f.fid.fileset f.number) ⊎ IsNewFetch f
    pub changes : (v : ServerId) (e n : ℕ) (c : ChangeOf) → Sends s v e n (Change c)
        → (HasChanged past v c × Changing past v c.fileset c.number) ⊎ IsNewChange v n c
    -- one request is outstanding
    pub one_fetch : (fs gs : FilesetId) (n m : ℕ) → Asking (s ∷ past) fs n → Asking (s ∷ past) gs m
        → (fs ≡ gs) × (n ≡ m)
    pub one_change : (v w : ServerId) (fs gs : FilesetId) (n m : ℕ)
        → Changing (s ∷ past) v fs n → Changing (s ∷ past) w gs m → (fs ≡ gs) × (n ≡ m)
    pub one_of_both : (v : ServerId) (fs gs : FilesetId) (n m : ℕ)
        → Asking (s ∷ past) fs n → Changing (s ∷ past) v gs m → ⊥
    -- until a server welcomes the host nothing is asked of it
    pub fetches_welcome : (v : ServerId) (e n : ℕ) (f : FetchOf) → Sends s v e n (Fetch f) → IsWelcome (s ∷ past) v
    pub changes_welcome : (v : ServerId) (e n : ℕ) (c : ChangeOf) → Sends s v e n (Change c) → IsWelcome (s ∷ past) v
    -- an open call isn't left alone: a request is outstanding, or it waits for a Gone, or to be welcome at its
    -- server
    pub asks : (call : Asked) → IsOpen (s ∷ past) call → (HasStopped (s ∷ past) → ⊥)
        → ((fs : FilesetId) × (n : ℕ) × Asking (s ∷ past) fs n)
        ⊎ (((v : ServerId) × (fs : FilesetId) × (n : ℕ) × Changing (s ∷ past) v fs n)
        ⊎ (AwaitsGone call.call
        ⊎ ((v : ServerId) × GoesTo call.call v × HasGreeted (s ∷ past) v × (IsWelcome (s ∷ past) v → ⊥))))
