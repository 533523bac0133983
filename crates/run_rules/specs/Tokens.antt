-- What a host has: give-backs, tokens, labels in use, and its open call. `past` is the host's own earlier steps.
use Rattle.std.specs.Prelude.{List, Some, [], count_by, if◌then◌else◌, is_some, true, ℕ, ◌+◌, ◌<◌, ◌∷◌, ◌≡◌, ◌⊎◌}
use Rattle.base_types.specs.declared.ids.Fid.{Fid}
use Rattle.base_types.specs.declared.ids.ServerId.{ServerId}
use Rattle.tree_calls.specs.declared.call.Call.{Call}
use Rattle.tree_calls.specs.declared.call.Call.TheVariants.{CloseFile, Unlock}
use Rattle.tree_calls.specs.declared.reply.Reply.{Reply}
use Rattle.tree_calls.specs.declared.reply.Reply.TheVariants.{Ok as Fine}
use Rattle.token_types.specs.declared.token.Kind.{Kind}
use Rattle.token_types.specs.declared.token.Kind.TheVariants.{Lock, Opening}
use Rattle.token_types.specs.declared.token.Token.{Token}
use Rattle.token_types.specs.declared.token.TokenId.{TokenId}
use Rattle.message_types.specs.declared.giving.AppliedGive.{AppliedGive}
use Rattle.message_types.specs.declared.giving.Ends.{Ends}
use Rattle.message_types.specs.declared.giving.Give.{Give}
use Rattle.message_types.specs.declared.giving.Outstanding.{Outstanding}
use Rattle.message_types.specs.declared.giving.Reclaimed.{Reclaimed as ReclaimedOf}
use Rattle.message_types.specs.declared.message.Body.TheVariants.{Done, Gone, Grant, Reclaimed, Revoke}
use Rattle.message_types.specs.declared.telling.Bring.{Bring}
use Rattle.message_types.specs.declared.telling.Done.{Done as DoneOf}
use Rattle.message_types.specs.declared.telling.DoneIs.TheVariants.{Reply as HasReply}
use Rattle.message_types.specs.declared.telling.Grant.{Grant as GrantOf}
use Rattle.message_types.specs.declared.tokens.Revoke.{Revoke as RevokeOf}
use Rattle.run_rules.specs.Messages.{About, Asking, Changing, Comes, DoneComes, HasKeptToken, Renews, ReturnsToken}
use Rattle.run_rules.specs.Messages.{stay_of}
use Rattle.run_rules.specs.Past.{In, Once, Still}
use Rattle.run_rules.specs.declared.applied.Answer.{Answer}
use Rattle.run_rules.specs.declared.applied.Leave.{Leave}
use Rattle.run_rules.specs.declared.step.Asked.{Asked}
use Rattle.run_rules.specs.declared.step.Labelled.{Labelled}
use Rattle.run_rules.specs.declared.step.Step.{Step}

-- # Give-backs: made, outstanding, known as applied

-- by which fileset and number a give-back is known
abbrev pub number_of : Give → AppliedGive
number_of give = record { fileset = give.fid.fileset; number = give.number }

-- an earlier step made the give-back
abbrev pub Made : List Step → Give → Type 0
Made past give = Once (λ before step. In give step.made) past

-- a give-back that the step makes names the token
abbrev pub Makes : Step → TokenId → Type 0
Makes step id = (give : Give) × In give step.made × In id give.ids

-- the step learns that the give-back of this number, which was made, is applied: its Gone comes, or any server's
-- Reclaimed that names it
abbrev pub Learns : List Step → Step → AppliedGive → Type 0
Learns past step number =
    ((give : Give) × Made past give × (number_of give ≡ number))
    × (About past step number.fileset (Gone number)
    ⊎ ((server : ServerId) × (answer : ReclaimedOf)
    × Comes past step server (Reclaimed answer) × In number answer.applied))

-- the give-back of this number is known as applied
abbrev pub IsKnownNumber : List Step → AppliedGive → Type 0
IsKnownNumber past number = Once (λ before step. Learns before step number) past

-- the give-back is known as applied
abbrev pub IsKnown : List Step → Give → Type 0
IsKnown past give = IsKnownNumber past (number_of give)

-- a give-back of the file was made, and isn't known as applied
abbrev pub GiveOpen : List Step → Fid → Type 0
GiveOpen past fid = (give : Give) × Made past give × (give.fid ≡ fid) × (IsKnown past give → ⊥)

-- an earlier give-back of the same fileset isn't known as applied, so this one waits: one is outstanding per fileset
abbrev pub WaitsBehind : List Step → Give → Type 0
WaitsBehind past give =
    (first : Give) × Made past first × (first.fid.fileset ≡ give.fid.fileset) × (first.number < give.number)
    × (IsKnown past first → ⊥)

-- the give-back is outstanding: it isn't known as applied, and no earlier one of its fileset makes it wait
pub record IsOutstanding (past : List Step) (give : Give) : Type 0 where
  pub made : Made past give
  pub unknown : IsKnown past give → ⊥
  pub first : WaitsBehind past give → ⊥

-- a Reclaim with these numbers names the give-back as outstanding
abbrev pub NamesGive : List Outstanding → Give → Type 0
NamesGive numbers give = (o : Outstanding) × In o numbers × (o.fileset ≡ give.fid.fileset) × (o.give ≡ give.number)

-- # Tokens that a host has

-- the step drops the token
abbrev pub Drops : Step → Token → Type 0
Drops step token = (leave : Leave) × In leave step.dropped × (leave.token ≡ token)

-- the host holds the token: it was taken and hasn't been dropped
abbrev pub Held : List Step → Token → Type 0
Held past token = Still (λ before step. In token step.taken) (λ before step. Drops step token) past

-- the token is at hand in the step: it is held, or the step takes it
abbrev pub AtHand : Step → List Step → Token → Type 0
AtHand step past token = In token step.taken ⊎ Held past token

-- a token with this number is held
abbrev pub HoldsId : List Step → TokenId → Type 0
HoldsId past id = (token : Token) × Held past token × (token.id ≡ id)

-- the token was taken
abbrev pub EverHeld : List Step → Token → Type 0
EverHeld past token = Once (λ before step. In token step.taken) past

-- the token leaves for the server: a give-back that the step makes, or a Returned of the step, names it
abbrev pub LeavesHost : Step → TokenId → Type 0
LeavesHost step id = Makes step id ⊎ ReturnsToken step id

-- the host owns the token: it was taken and hasn't left; it is held, or was held when the host stopped
abbrev pub Owns : List Step → Token → Type 0
Owns past token = Still (λ before step. In token step.taken) (λ before step. LeavesHost step token.id) past

-- # Floors: which Grants and Dones a host uses

-- a lock or an open token
abbrev pub IsUseKind : Kind → Type 0
IsUseKind (Lock writing span) = Unit {0}
IsUseKind (Opening kind) = Unit {0}
IsUseKind _ = ⊥

-- all that it brings are lock and open tokens
abbrev pub BringsUses : Bring → Type 0
BringsUses bring = (token : Token) → In token bring.tokens → IsUseKind token.kind

-- The step's cause is a Grant or a Done that brings this, of the present stay of its file's fileset, and it answers the
-- outstanding request of its number. A Done shows nothing of its file, so it brings lock and open tokens alone; one
-- that brings others answers nothing.
abbrev pub AnswersRequest : List Step → Step → Bring → Type 0
AnswersRequest past step bring =
    ((grant : GrantOf) × About past step bring.fid.fileset (Grant grant) × (grant.bring ≡ bring)
    × Asking past bring.fid.fileset bring.number)
    ⊎ ((done : DoneOf) × About past step bring.fid.fileset (Done done) × (done.bring ≡ bring)
    × Changing past (stay_of past bring.fid.fileset).server done.fileset bring.number × BringsUses bring)

-- The stamp is above the floor of the file: above 0, and above that of each Revoke that came, and of each Grant and
-- Done that was used, since the floors of its fileset began anew.
abbrev pub AboveFloor : List Step → Fid → ℕ → Type 0
AboveFloor [] fid stamp = 0 < stamp
AboveFloor (step ∷ past) fid stamp =
    (Renews past step fid.fileset × (0 < stamp))
    ⊎ (AboveFloor past fid stamp
    × ((revoke : RevokeOf) → About past step fid.fileset (Revoke revoke) → revoke.fid ≡ fid → revoke.stamp < stamp)
    × ((bring : Bring) → AnswersRequest past step bring → AboveFloor past bring.fid bring.stamp
    → (GiveOpen past bring.fid → ⊥) → bring.fid ≡ fid → bring.stamp < stamp))

-- The step uses what its cause brings: it answers the outstanding request, its stamp is above the floor of the file,
-- and no give-back of that file is made and not known as applied.
abbrev pub Uses : List Step → Step → Bring → Type 0
Uses past step bring =
    AnswersRequest past step bring × AboveFloor past bring.fid bring.stamp × (GiveOpen past bring.fid → ⊥)

-- # Labels of locks and open files that are in use, and the tokens that are pinned for them

-- the call that ends the use of a label: CloseFile where its token is an open token, else Unlock
abbrev pub end_call : Kind → List ℕ → Call
end_call (Opening kind) label = CloseFile label
end_call _ label = Unlock label

abbrev pub end_of : Labelled → Call
end_of usage = end_call usage.token.kind usage.label

-- the host itself ends the use in the step
abbrev pub EndsUse : Step → Labelled → Type 0
EndsUse s usage = (a : Answer) × In a s.answers × (a.call ≡ end_of usage) × (a.reply ≡ Fine)

-- the give-back ends the use
abbrev pub GivesUse : Give → Labelled → Type 0
GivesUse give usage = (ends : Ends) × (give.ends ≡ Some ends) × (ends.call ≡ end_of usage) × In usage.token.id give.ids

-- The label is in use: its Lock or OpenFile was answered with ok, and since then neither the host has ended its use
-- nor a give-back that was made.
abbrev pub LabelInUse : List Step → Labelled → Type 0
LabelInUse [] usage = ⊥
LabelInUse (s ∷ past) usage =
    In usage s.begun
    ⊎ (LabelInUse past usage × (EndsUse s usage → ⊥) × ((give : Give) → In give s.made → GivesUse give usage → ⊥))

-- the give-back ended the use when it was made
abbrev pub HasEndedUse : List Step → Give → Labelled → Type 0
HasEndedUse past give usage = Once (λ before s. In give s.made × LabelInUse before usage × GivesUse give usage) past

-- the use of the label is being ended: a give-back ended it, and isn't known as applied once the step begins
abbrev pub IsEnding : List Step → Step → Labelled → Type 0
IsEnding past s usage = (give : Give) × HasEndedUse past give usage × (IsKnown (s ∷ past) give → ⊥)

-- no label is in use
abbrev pub NoneUsed : List Step → Type 0
NoneUsed past = (usage : Labelled) → LabelInUse past usage → ⊥

-- the token is in use
abbrev pub TokenInUse : List Step → TokenId → Type 0
TokenInUse past id = (usage : Labelled) × LabelInUse past usage × (usage.token.id ≡ id)

-- of the labels in use it is the only one left of its token
abbrev pub IsLastUse : List Step → Labelled → Type 0
IsLastUse past usage = LabelInUse past usage
    × ((other : Labelled) → LabelInUse past other → other.token.id ≡ usage.token.id → other ≡ usage)

-- Ending the use is the last use of a pinned token: a Kept named it, so that the server has to learn of the end.
abbrev pub FreesPinned : List Step → Labelled → Type 0
FreesPinned past usage = IsLastUse past usage × HasKeptToken past usage.token.id

-- # The open call

-- a Done counts where it answers the outstanding Change, by server, fileset and number
abbrev pub DoneCounts : List Step → Step → ServerId → DoneOf → Type 0
DoneCounts past s server done = DoneComes past s server done × Changing past server done.fileset done.bring.number

-- The step learns that a give-back which ends the call was applied. A late copy of its Gone teaches nothing.
abbrev pub LearnsEnd : List Step → Step → Asked → Type 0
LearnsEnd past s call = (give : Give) × (ends : Ends) × Made past give × (give.ends ≡ Some ends) × (ends.k ≡ call.k)
    × Learns past s (number_of give) × (IsKnown past give → ⊥)

-- the cause of the step ends the call: a Done with a reply counts, or a give-back that ends the call was applied
abbrev pub CauseEnds : List Step → Step → Asked → Type 0
CauseEnds past s call =
    ((server : ServerId) × (done : DoneOf) × (reply : Reply)
    × DoneCounts past s server done × (done.outcome ≡ HasReply reply))
    ⊎ LearnsEnd past s call

-- the call is open: it was begun, and neither the cause of a step nor an answer of the host has ended it
abbrev pub IsOpen : List Step → Asked → Type 0
IsOpen [] call = ⊥
IsOpen (s ∷ past) call =
    (s.asked ≡ Some call)
    ⊎ (IsOpen past call × (CauseEnds past s call → ⊥) × ((a : Answer) → In a s.answers → a.k ≡ call.k → ⊥))

abbrev pub NoneOpen : List Step → Type 0
NoneOpen past = (call : Asked) → IsOpen past call → ⊥

-- the step begins the call of this number: it leaves it open, or answers it at once
abbrev pub BeginsCall : Step → ℕ → Call → Type 0
BeginsCall s k call =
    (s.asked ≡ Some (record { k = k; call = call }))
    ⊎ ((a : Answer) × In a s.answers × (a.first ≡ true) × (a.k ≡ k) × (a.call ≡ call))

-- the call goes on in the step: it was open, and the cause doesn't end it
abbrev pub CallGoesOn : List Step → Step → ℕ → Call → Type 0
CallGoesOn past s k call =
    let open_call : Asked = record { k = k; call = call } in IsOpen past open_call × (CauseEnds past s open_call → ⊥)

-- the step could answer the call: it begins it, or the call goes on
abbrev pub HasCall : List Step → Step → ℕ → Call → Type 0
HasCall past s k call = BeginsCall s k call ⊎ CallGoesOn past s k call

-- how many calls the host has begun
abbrev pub calls_begun : List Step → ℕ
calls_begun [] = 0
calls_begun (s ∷ past) = (if is_some s.asked then 1 else count_by (λ answer. answer.first) s.answers) + calls_begun past
