-- The acts of a step, each of which is done now.
use Rattle.std.proofs.Common.{◌≡◌, ◌<◌, ℕ, ◌==◌, nat_lt, Bool, cond, true, false, List, [], ◌∷◌, Option, Some, None, refl, sym, ap, ◌∙◌, subst}
use Rattle.std.specs.Prelude.{if◌then◌else◌}
use Rattle.std.specs.List.{filter}
use Rattle.std.specs.Option.{option_map_or}
use Rattle.base_types.specs.declared.ids.Fid.{Fid}
use Rattle.base_types.specs.declared.ids.FilesetId.{FilesetId}
use Rattle.base_types.specs.declared.ids.HostId.{HostId}
use Rattle.base_types.specs.declared.ids.ServerId.{ServerId}
use Rattle.base_types.specs.declared.span.Span.{Span}
use Rattle.base_types.specs.declared.user.User.{User}
use Rattle.tree_calls.specs.Rosters.{user_of}
use Rattle.tree_calls.specs.declared.call.Call.{Call}
use Rattle.tree_calls.specs.declared.call.Call.TheVariants.{
  NewFileset,
  Create,
  MakeDir,
  Remove,
  Rename,
  Truncate,
  SetAcl,
  CloneFileset,
  Read,
  Write,
  List as ListNames,
  Stat,
  GetAcl,
  Sync,
  Lock,
  Unlock,
  OpenFile,
  CloseFile,
  MoveFileset,
}
use Rattle.tree_calls.specs.declared.part.Piece.{Piece}
use Rattle.tree_calls.specs.declared.reply.Refusal.TheVariants.{NoFileset}
use Rattle.tree_calls.specs.declared.reply.Reply.{Reply}
use Rattle.tree_calls.specs.declared.reply.Reply.TheVariants.{Ok as Accepted, Bytes, Names, Facts, Access, Refused}
use Rattle.tree_calls.specs.declared.roster.Roster.{Roster}
use Rattle.tree_calls.specs.declared.ship.Record.{Record}
use Rattle.tree_answers.specs.Answers.{answer_for, answer_to, for_user}
use Rattle.tree_answers.specs.declared.tree.Tree.{Tree}
use Rattle.tree_answers.proofs.AfterMove.{same_server}
use Rattle.message_types.specs.Soundness.{Each}
use Rattle.need_laws.specs.Known.{IsAt}
use Rattle.store_acts.specs.Acts.{act_done, do_outcome, state_after}
use Rattle.store_acts.specs.Sound.{HasName, IsAct}
use Rattle.store_acts.specs.declared.act.Act.{Act}
use Rattle.store_acts.specs.declared.act.Act.TheVariants.{Do, Epoch, Give, Host}
use Rattle.store_acts.proofs.Next.{act_next}
use Rattle.store_acts.specs.Sound.{KeepsLimits}
use Rattle.store_state.specs.Giving.{give_outcome}
use Rattle.store_state.specs.Outcomes.{Outcome, decided, decided_by, decided_once, not_fresh, stale, unless_before}
use Rattle.store_state.specs.Replies.{kept_reply}
use Rattle.store_state.specs.Rows.{answer_to as store_answer, numbered_id, numbered_name}
use Rattle.store_state.specs.State.{record_of, records_of}
use Rattle.store_state.specs.declared.state.StoreState.{StoreState}
use Rattle.store_laws.specs.Calls.{IsNewChange}
use Rattle.store_laws.specs.KeptGives.{IsNewGive}
use Rattle.store_laws.specs.TreeKeeping.{KeepsOf}
use Rattle.run_contents.specs.Gives.{IsKept}
use Rattle.run_rules.specs.Kept.{filesets_after, filesets_kept, filesets_through, is_refusal, pieces_in}
use Rattle.run_rules.specs.Runs.{past_of}
use Rattle.run_rules.specs.Steps.{steps_of_server}
use Rattle.run_rules.specs.declared.applied.Applied.TheVariants.{Done, IsDown, Moves as IsMoved, Replied, Stored, Wants}
use Rattle.run_rules.specs.declared.applied.Applied.{Applied}
use Rattle.run_rules.specs.declared.step.Cause.{Cause}
use Rattle.run_rules.specs.declared.step.Step.{Step}
use Rattle.run_rules.specs.declared.applied.Written.{Written}
use Rattle.run_stores.specs.Elsewhere.{named_at}
use Rattle.run_stores.specs.Keeping.{IsOf, StandsFor}
use Rattle.run_stores.specs.Steps.{BegunStoresEnd, begun, Fits, PastFits, StepsAreKept, StoresEnd, StoresStand, acts_of, change_act, give_act, is_of_filesets, number_in, store_after}
use Rattle.run_stores.proofs.Elsewhere.{others_are_refused}
use Rattle.run_stores.proofs.Ends.{stores_follow}
use Rattle.run_stores.proofs.Numbers.{below_so}
use Rattle.run_stores.proofs.Stands.{acts_stand, same_booted}
use Rattle.store_laws.proofs.Boots.{boots_are_kept}

-- an act that is done now has a number that is new
change_new : (state : StoreState) (id : FilesetId) (host : HostId) (number : ℕ) (outcome : Outcome) →
    (decided_once state id host number outcome).done.fresh ≡ true → IsNewChange state id host number
change_new state id host number outcome = by (records_of state id) refl
  where
    by : (found : Option (List Record)) → records_of state id ≡ found →
        (unless_before (option_map_or (λ records. decided_by (record_of records host) number) found
        (Some (not_fresh (Refused NoFileset)))) state outcome).done.fresh ≡ true → IsNewChange state id host number
    by None e h = absurd (cc)
    by (Some records) e h = test (nat_lt (record_of records host).change number) refl h
      where
        test : (b : Bool) → nat_lt (record_of records host).change number ≡ b →
            (unless_before (if b then None else Some (not_fresh (kept_reply (record_of records host)))) state
            outcome).done.fresh ≡ true → IsNewChange state id host number
        test true k h = λ other f.
            (let same : records ≡ other = (let p : Some records ≡ Some other = sym e ∙ f in cc) in
            subst (λ rs. (record_of rs host).change < number) same (below_so (record_of records host).change number k))
        test false k h = absurd (cc)

do_new : (state : StoreState) (host : HostId) (number : ℕ) (call : Call) →
    (act_done state (Do host number call)).done.fresh ≡ true →
    (id : FilesetId) × (numbered_id state (numbered_name call) ≡ Some id) × IsNewChange state id host number
unfolding act_done do_outcome
do_new state host number call = by (numbered_id state (numbered_name call)) refl
  where
    by : (found : Option FilesetId) → numbered_id state (numbered_name call) ≡ found →
        (option_map_or (λ id. decided_once state id host number (decided id host number (store_answer state host call)))
        found (stale (Refused NoFileset) state)).done.fresh ≡ true →
        (id : FilesetId) × (numbered_id state (numbered_name call) ≡ Some id) × IsNewChange state id host number
    by None e h = absurd (cc)
    by (Some id) e h =
        (id, e, change_new state id host number (decided id host number (store_answer state host call)) h)

give_new : (state : StoreState) (host : HostId) (number : ℕ) (fid : Fid) (pieces : List Piece) (given : Option ℕ) →
    (act_done state (Give host number fid pieces given)).done.fresh ≡ true → IsNewGive state fid.fileset host number
unfolding act_done give_outcome
give_new state host number fid pieces given = by (records_of state fid.fileset) refl _
  where
    by : (found : Option (List Record)) → records_of state fid.fileset ≡ found → (outcome : Outcome) →
        (unless_before (option_map_or (λ records. if nat_lt (record_of records host).give number then None
        else Some (not_fresh Accepted)) found
        (Some (not_fresh (Refused NoFileset)))) state outcome).done.fresh ≡ true →
        IsNewGive state fid.fileset host number
    by None e outcome h = absurd (cc)
    by (Some records) e outcome h = test (nat_lt (record_of records host).give number) refl h
      where
        test : (b : Bool) → nat_lt (record_of records host).give number ≡ b →
            (unless_before (if b then None else Some (not_fresh Accepted)) state outcome).done.fresh ≡ true →
            IsNewGive state fid.fileset host number
        test true k h = λ other f.
            (let same : records ≡ other = (let p : Some records ≡ Some other = sym e ∙ f in cc) in
            subst (λ rs. (record_of rs host).give < number) same (below_so (record_of records host).give number k))
        test false k h = absurd (cc)

-- what isn't refused names the server's filesets alone
nobody : (tree : Tree) (host : HostId) (call : Call) → user_of tree.roster host ≡ None →
    is_refusal (answer_to tree host call).reply ≡ true
unfolding answer_to
nobody tree host call e = ap (λ found. is_refusal (for_user tree found (answer_for tree host call)).reply) e

own_named : (server other : ServerId) (tree : Tree) (host : HostId) (call : Call) → IsOf server tree →
    named_at call ≡ Some other → is_refusal (answer_to tree host call).reply ≡ false → other ≡ server
own_named server other tree host call o named accepted = by (other.0 == server.0) refl
  where
    known : (other.0 == server.0) ≡ false → (found : Option User) → user_of tree.roster host ≡ found → ⊥
    known apart None e =
        let clash : true ≡ false = sym (nobody tree host call e) ∙ accepted in cc
    known apart (Some user) e =
        let refused = ap is_refusal (others_are_refused server other tree host user call o named apart e) in
        let clash : true ≡ false = sym refused ∙ accepted in cc

    by : (b : Bool) → (other.0 == server.0) ≡ b → other ≡ server
    by true e = same_server other server e
    by false e = absurd (known e (user_of tree.roster host) refl)

own_call : (roster : Roster) (server : ServerId) (tree : Tree) (host : HostId) (number : ℕ) (call : Call) →
    IsOf server tree → IsAct roster server (Do host number call) →
    is_refusal (answer_to tree host call).reply ≡ false → IsAt server call
own_call roster server tree host number (NewFileset at name objects owner) o fits accepted = fits.2
own_call roster server tree host number (CloneFileset at source new) o fits accepted =
    own_named server at tree host (CloneFileset at source new) o refl accepted
own_call roster server tree host number (Create place) o fits accepted =
    own_named server place.server tree host (Create place) o refl accepted
own_call roster server tree host number (MakeDir place) o fits accepted =
    own_named server place.server tree host (MakeDir place) o refl accepted
own_call roster server tree host number (Remove place) o fits accepted =
    own_named server place.server tree host (Remove place) o refl accepted
own_call roster server tree host number (Rename from to) o fits accepted =
    own_named server from.server tree host (Rename from to) o refl accepted
own_call roster server tree host number (Truncate place len) o fits accepted =
    own_named server place.server tree host (Truncate place len) o refl accepted
own_call roster server tree host number (SetAcl place which list) o fits accepted =
    own_named server place.server tree host (SetAcl place which list) o refl accepted
own_call roster server tree host number (Read place from len) o fits accepted = absurd fits.1
own_call roster server tree host number (Write place from bytes) o fits accepted = absurd fits.1
own_call roster server tree host number (ListNames place) o fits accepted = absurd fits.1
own_call roster server tree host number (Stat place) o fits accepted = absurd fits.1
own_call roster server tree host number (GetAcl place which) o fits accepted = absurd fits.1
own_call roster server tree host number (Sync place) o fits accepted = absurd fits.1
own_call roster server tree host number (Lock label place writing from len) o fits accepted = absurd fits.1
own_call roster server tree host number (Unlock label) o fits accepted = absurd fits.1
own_call roster server tree host number (OpenFile label place kind) o fits accepted = absurd fits.1
own_call roster server tree host number (CloseFile label) o fits accepted = absurd fits.1
own_call roster server tree host number (MoveFileset at name to) o fits accepted = absurd fits.1

abbrev tree_after : Tree → Written → Tree
tree_after tree written = (answer_to tree written.answer.host written.answer.call).tree

abbrev Meant : Tree → Written → Type 0
Meant tree written =
    (is_refusal (answer_to tree written.answer.host written.answer.call).reply ≡ false) × HasName written.answer.call

does : (tree : Tree) (state : StoreState) (written : Written) → StandsFor tree state →
    IsAct state.roster state.server (Do written.answer.host written.number written.answer.call) →
    (act_done state (Do written.answer.host written.number written.answer.call)).done.fresh ≡ true → Meant tree written →
    StandsFor (tree_after tree written)
    (act_done state (Do written.answer.host written.number written.answer.call)).state
does tree state written s fits fresh meant =
    let (id, numbered, new) = do_new state written.answer.host written.number written.answer.call fresh in
    acts_stand.changed tree state written.answer.host written.number written.answer.call id s
    (own_call state.roster state.server tree written.answer.host written.number written.answer.call s.is_of fits meant.0)
    fits meant.1 numbered new meant.0

written_stands : (tree : Tree) (state : StoreState) (written : Written) (reply : Reply) → StandsFor tree state →
    IsAct state.roster state.server (change_act reply written) →
    (act_done state (change_act reply written)).done.fresh ≡ true →
    (is_refusal reply ≡ false → Meant tree written) →
    StandsFor (if is_refusal reply then tree else tree_after tree written)
    (act_done state (change_act reply written)).state
written_stands tree state written (Refused refusal) s fits fresh d =
    acts_stand.refused tree state written.answer.host written.fileset written.number refusal s fits
written_stands tree state written Accepted s fits fresh d = does tree state written s fits fresh (d refl)
written_stands tree state written (Bytes bytes) s fits fresh d = does tree state written s fits fresh (d refl)
written_stands tree state written (Names names) s fits fresh d = does tree state written s fits fresh (d refl)
written_stands tree state written (Facts facts) s fits fresh d = does tree state written s fits fresh (d refl)
written_stands tree state written (Access list) s fits fresh d = does tree state written s fits fresh (d refl)

-- what may be given to a store may be given to it after an act
acts_next : (state : StoreState) (act : Act) (acts : List Act) → KeepsLimits state →
    IsAct state.roster state.server act → Each (IsAct state.roster state.server) acts →
    Each (IsAct (act_done state act).state.roster (act_done state act).state.server) acts
acts_next state act acts limits fits rest =
    let next = act_next state act limits fits in
    subst (λ v. Each (IsAct (act_done state act).state.roster v) acts) (sym next.server)
    (subst (λ r. Each (IsAct r state.server) acts) (sym next.roster) rest)

-- what tells of epochs and hosts alone
notice_stands : (tree : Tree) (state : StoreState) (act : Act) → is_of_filesets act ≡ false → StandsFor tree state →
    IsAct state.roster state.server act → StandsFor tree (act_done state act).state
notice_stands tree state Epoch e s fits = acts_stand.epoch tree state s
notice_stands tree state (Host host known) e s fits = acts_stand.host tree state host known s fits
notice_stands tree state act e s fits = absurd (cc)

abbrev with_act : Bool → Act → List Act → List Act
with_act b act acts = cond b (act ∷ acts) acts

-- what is left behind an act
left_out : (act : Act) (acts taken : List Act) → is_of_filesets act ≡ false →
    filter is_of_filesets (act ∷ acts) ≡ taken → filter is_of_filesets acts ≡ taken
left_out act acts taken e h =
    sym (ap (λ b. with_act b act (filter is_of_filesets acts)) e) ∙ h

taken_first : (act first : Act) (acts taken : List Act) → is_of_filesets act ≡ true →
    filter is_of_filesets (act ∷ acts) ≡ first ∷ taken → (act ≡ first) × (filter is_of_filesets acts ≡ taken)
taken_first act first acts taken e h =
    let both : act ∷ filter is_of_filesets acts ≡ first ∷ taken =
    sym (ap (λ b. with_act b act (filter is_of_filesets acts)) e) ∙ h in
    (cc, cc)

none_taken : (act : Act) (acts : List Act) → is_of_filesets act ≡ true →
    filter is_of_filesets (act ∷ acts) ≡ [] → ⊥
none_taken act acts e h =
    let clash : act ∷ filter is_of_filesets acts ≡ [] =
    sym (ap (λ b. with_act b act (filter is_of_filesets acts)) e) ∙ h in
    cc

abbrev Stand : Cause → List Act → Type 0
Stand cause acts = (applied : List Applied) (tree : Tree) (state : StoreState) → StandsFor tree state
    → Fits cause applied acts tree state → StandsFor (filesets_through cause applied tree) (state_after state acts)

-- no act
no_act : (cause : Cause) → Stand cause []
no_act cause [] tree state s fit = s
no_act cause (Done written ∷ applied) tree state s fit = let clash = fit.takes in absurd (cc)
no_act cause (Stored host fid spans given ∷ applied) tree state s fit = let clash = fit.takes in absurd (cc)
no_act cause (Replied answer ∷ applied) tree state s fit = no_act cause applied tree state s (record {
  rise = fit.rise;
  decided = fit.decided.1;
  takes = fit.takes;
  acts_are = fit.acts_are;
  fresh = fit.fresh;
})
no_act cause (IsDown host ∷ applied) tree state s fit = no_act cause applied tree state s (record {
  rise = fit.rise;
  decided = fit.decided.1;
  takes = fit.takes;
  acts_are = fit.acts_are;
  fresh = fit.fresh;
})
no_act cause (IsMoved move ∷ applied) tree state s fit = no_act cause applied tree state s (record {
  rise = fit.rise;
  decided = fit.decided.1;
  takes = fit.takes;
  acts_are = fit.acts_are;
  fresh = fit.fresh;
})
no_act cause (Wants wanted ∷ applied) tree state s fit = no_act cause applied tree state s (record {
  rise = fit.rise;
  decided = fit.decided.1;
  takes = fit.takes;
  acts_are = fit.acts_are;
  fresh = fit.fresh;
})

-- an act that tells of epochs and hosts alone
notice : (cause : Cause) (act : Act) (acts : List Act) → is_of_filesets act ≡ false → Stand cause acts →
    Stand cause (act ∷ acts)
notice cause act acts e rest applied tree state s fit =
    rest applied tree (act_done state act).state (notice_stands tree state act e s fit.acts_are.0) (record {
      rise = fit.rise;
      decided = fit.decided;
      takes = left_out act acts (acts_of cause applied) e fit.takes;
      acts_are = acts_next state act acts s.keeps.storable.limits fit.acts_are.0 fit.acts_are.1;
      fresh = fit.fresh.1;
    })

-- an act that changes filesets
change_first : (cause : Cause) (act : Act) (acts : List Act) (written : Written) (applied : List Applied) (tree : Tree)
    (state : StoreState) → act ≡ change_act written.answer.reply written →
    filter is_of_filesets acts ≡ acts_of cause applied → Stand cause acts → StandsFor tree state →
    Fits cause (Done written ∷ applied) (act ∷ acts) tree state →
    StandsFor (filesets_through cause (Done written ∷ applied) tree) (state_after state (act ∷ acts))
change_first cause act acts written applied tree state same taken rest s fit =
    rest applied (filesets_after cause tree (Done written)) (act_done state act).state
    (subst (λ a. StandsFor (filesets_after cause tree (Done written)) (act_done state a).state) (sym same)
    (written_stands tree state written written.answer.reply s
    (subst (IsAct state.roster state.server) same fit.acts_are.0)
    (subst (λ a. (act_done state a).done.fresh ≡ true) same fit.fresh.0) fit.decided.0)) (record {
      rise = fit.rise;
      decided = fit.decided.1;
      takes = taken;
      acts_are = acts_next state act acts s.keeps.storable.limits fit.acts_are.0 fit.acts_are.1;
      fresh = fit.fresh.1;
    })

give_first : (cause : Cause) (act : Act) (acts : List Act) (host : HostId) (fid : Fid) (spans : List Span)
    (given : Option ℕ) (applied : List Applied) (tree : Tree) (state : StoreState) →
    act ≡ give_act cause host fid given → filter is_of_filesets acts ≡ acts_of cause applied → Stand cause acts →
    StandsFor tree state → Fits cause (Stored host fid spans given ∷ applied) (act ∷ acts) tree state →
    StandsFor (filesets_through cause (Stored host fid spans given ∷ applied) tree) (state_after state (act ∷ acts))
give_first cause act acts host fid spans given applied tree state same taken rest s fit =
    rest applied (filesets_after cause tree (Stored host fid spans given)) (act_done state act).state
    (subst (λ a. StandsFor (filesets_after cause tree (Stored host fid spans given)) (act_done state a).state) (sym same)
    (acts_stand.given tree state host (number_in cause) fid (pieces_in cause) given s
    (give_new state host (number_in cause) fid _ given (subst (λ a. (act_done state a).done.fresh ≡ true) same fit.fresh.0)) fit.rise
    (subst (IsAct state.roster state.server) same fit.acts_are.0))) (record {
      rise = fit.rise;
      decided = fit.decided.1;
      takes = taken;
      acts_are = acts_next state act acts s.keeps.storable.limits fit.acts_are.0 fit.acts_are.1;
      fresh = fit.fresh.1;
    })

first_act : (cause : Cause) (act : Act) (acts : List Act) → is_of_filesets act ≡ true → Stand cause acts →
    Stand cause (act ∷ acts)
first_act cause act acts e rest [] tree state s fit = absurd (none_taken act acts e fit.takes)
first_act cause act acts e rest (Done written ∷ applied) tree state s fit =
    let both = taken_first act (change_act written.answer.reply written) acts (acts_of cause applied) e fit.takes in
    change_first cause act acts written applied tree state both.0 both.1 rest s fit
first_act cause act acts e rest (Stored host fid spans given ∷ applied) tree state s fit =
    let both = taken_first act (give_act cause host fid given) acts (acts_of cause applied) e fit.takes in
    give_first cause act acts host fid spans given applied tree state both.0 both.1 rest s fit
first_act cause act acts e rest (Replied answer ∷ applied) tree state s fit =
    first_act cause act acts e rest applied tree state s (record {
      rise = fit.rise;
      decided = fit.decided.1;
      takes = fit.takes;
      acts_are = fit.acts_are;
      fresh = fit.fresh;
    })
first_act cause act acts e rest (IsDown host ∷ applied) tree state s fit =
    first_act cause act acts e rest applied tree state s (record {
      rise = fit.rise;
      decided = fit.decided.1;
      takes = fit.takes;
      acts_are = fit.acts_are;
      fresh = fit.fresh;
    })
first_act cause act acts e rest (IsMoved move ∷ applied) tree state s fit =
    first_act cause act acts e rest applied tree state s (record {
      rise = fit.rise;
      decided = fit.decided.1;
      takes = fit.takes;
      acts_are = fit.acts_are;
      fresh = fit.fresh;
    })
first_act cause act acts e rest (Wants wanted ∷ applied) tree state s fit =
    first_act cause act acts e rest applied tree state s (record {
      rise = fit.rise;
      decided = fit.decided.1;
      takes = fit.takes;
      acts_are = fit.acts_are;
      fresh = fit.fresh;
    })

one_act : (cause : Cause) (act : Act) (acts : List Act) (b : Bool) → is_of_filesets act ≡ b → Stand cause acts →
    Stand cause (act ∷ acts)
one_act cause act acts true e rest = first_act cause act acts e rest
one_act cause act acts false e rest = notice cause act acts e rest

all_acts : (cause : Cause) (acts : List Act) → Stand cause acts
all_acts cause [] = no_act cause
all_acts cause (act ∷ acts) = one_act cause act acts (is_of_filesets act) refl (all_acts cause acts)

pub steps_are_kept : StepsAreKept
steps_are_kept cause applied acts = all_acts cause acts applied

pub stores_stand : StoresStand
stores_stand start state [] [] kept_is unmoved keeps fits = acts_stand.first start state kept_is unmoved keeps
stores_stand start state [] (acts ∷ given) kept_is unmoved keeps fits = absurd fits
stores_stand start state (s ∷ past) [] kept_is unmoved keeps fits = absurd fits
stores_stand start state (s ∷ past) (acts ∷ given) kept_is unmoved keeps fits =
    steps_are_kept s.cause s.applied acts (filesets_kept start state.server past) (store_after state given)
    (stores_stand start state past given kept_is unmoved keeps fits.0) fits.1

-- acts leave a store with its server
server_after : (state : StoreState) (acts : List Act) → KeepsLimits state →
    Each (IsAct state.roster state.server) acts → (state_after state acts).server ≡ state.server
server_after state [] limits fits = refl
server_after state (act ∷ acts) limits fits =
    let next = act_next state act limits fits.0 in
    server_after (act_done state act).state acts next.limits (acts_next state act acts limits fits.0 fits.1)
    ∙ next.server

server_stays : (start : Tree) (state : StoreState) (past : List Step) (given : List (List Act)) → IsKept start →
    start.away ≡ [] → KeepsOf start state → PastFits start state past given →
    (store_after state given).server ≡ state.server
server_stays start state [] [] kept_is unmoved keeps fits = refl
server_stays start state [] (acts ∷ given) kept_is unmoved keeps fits = absurd fits
server_stays start state (s ∷ past) [] kept_is unmoved keeps fits = absurd fits
server_stays start state (s ∷ past) (acts ∷ given) kept_is unmoved keeps fits =
    server_after (store_after state given) acts
    (stores_stand start state past given kept_is unmoved keeps fits.0).keeps.storable.limits fits.1.acts_are
    ∙ server_stays start state past given kept_is unmoved keeps fits.0

pub stores_end : StoresEnd
stores_end script journal run ended state given keeps fits =
    let past = steps_of_server state.server (past_of journal) in
    let first : IsKept run.start = record { formed = run.valid.well_formed; rests = run.valid.at_rest } in
    let stands = stores_stand run.start state past given first run.valid.unmoved keeps fits in
    let same = server_stays run.start state past given first run.valid.unmoved keeps fits in
    stores_follow script journal run ended (store_after state given)
    (subst (λ v. KeepsOf (filesets_kept run.start v (steps_of_server v (past_of journal))) (store_after state given)) (sym same) stands.keeps)

pub begun_stores_end : BegunStoresEnd
begun_stores_end = record {
  new = λ state id host number first.
      (boots_are_kept.changes state id host number first, boots_are_kept.gives state id host number first);
  stand = λ start state past given kept_is unmoved keeps fits.
      subst (λ v. StandsFor (filesets_kept start v past) (store_after (begun state) given)) (same_booted state)
      (stores_stand start (begun state) past given kept_is unmoved (boots_are_kept.boot start state keeps).keeps
      (subst (λ v. PastFits start (begun state) past given) (same_booted state) fits));
  end = λ script journal run ended state given keeps fits.
      stores_end script journal run ended (begun state) given (boots_are_kept.boot run.start state keeps).keeps
      (subst (λ v. PastFits run.start (begun state) (steps_of_server v (past_of journal)) given) (sym (same_booted state)) fits);
}
