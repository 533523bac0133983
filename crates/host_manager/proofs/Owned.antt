-- What a step sends is the host's own.
use Rattle.base_types.specs.declared.ids.Fid.{Fid}
use Rattle.base_types.specs.declared.ids.FilesetId.{FilesetId}
use Rattle.base_types.specs.declared.ids.HostId.{HostId}
use Rattle.base_types.specs.declared.ids.Node.TheVariants.{Host}
use Rattle.base_types.specs.declared.ids.ServerId.{ServerId}
use Rattle.host_asks.specs.Asking.{AsksFor, Doing, asking_question, changing, coming_to, doing, fetching, fileset_of}
use Rattle.host_asks.specs.Asking.{greeting, is_entering, may_ask, next_change, server_of, with_asked, with_fetching}
use Rattle.host_asks.specs.Asking.{with_greeted}
use Rattle.host_asks.specs.Asking.AsksFor.{Changes, Comes, FetchesIt, Waits}
use Rattle.host_asks.specs.Claiming.{claim_of, claiming_again, helloing, parting_again, repeating}
use Rattle.host_asks.specs.Going.{GivesUse, Goes, MarksWhere, Settles, begun_at, left_open}
use Rattle.host_asks.specs.Going.GivesUse.{EndsIt, HasEnded, IsLost, IsUnused}
use Rattle.host_asks.specs.Going.Goes.{Ends as GoesEnds, Finds, IsRefused, LacksIt, Waits as GoesWaits}
use Rattle.host_asks.specs.Going.Settles.{AnswersIt, AsksIt, GivesIt, SyncsIt}
use Rattle.host_cache.specs.Holding.{tokens_of}
use Rattle.host_calls.specs.Answering.{Answered, ChangesOwn, EndsUse, MarksUsed}
use Rattle.host_calls.specs.Answering.ChangesOwn.{FreesIt, KeepsAll, UsesIt, WritesIt}
use Rattle.host_calls.specs.Looking.{ending_of, is_settled}
use Rattle.host_calls.specs.declared.looking.Question.{Question}
use Rattle.host_calls.specs.declared.looking.Verdict.{Verdict}
use Rattle.host_gives.specs.Giving.{outstanding}
use Rattle.host_labels.specs.declared.uses.Labelled.{Labelled as UseOf}
use Rattle.host_leaves.specs.Dirtying.{tokens_at}
use Rattle.host_leaves.specs.Giving.{Drops, Gives, GivesWhere, Leaves, LeavesGiven, LeavesWhere, making, returned_ids}
use Rattle.host_leaves.specs.Giving.{returning}
use Rattle.host_leaves.specs.Sending.{filesets_given, saying, sending_due, sending_give, sending_request, with_once}
use Rattle.host_manager.proofs.Folding.{saying_says}
use Rattle.host_manager.specs.Closing.{BeginsIt, EndsNext, EvictsIt, GoesDown, LeavesEach, LeavesFile, downing}
use Rattle.host_manager.specs.Closing.{is_to_part, parting}
use Rattle.host_manager.specs.Closing.EndsNext.{Awaits, EndsLabel, LeavesAll, Parts}
use Rattle.host_manager.specs.Closing.LeavesEach.{NoneLeft, OneLeaves}
use Rattle.host_manager.specs.Closing.LeavesFile.{HasLeft, NowLeaves}
use Rattle.host_manager.specs.Due.{IsOwn}
use Rattle.host_tables.specs.Drafts.{no_draft, step_of}
use Rattle.host_tables.specs.Tables.{labelled, site_at}
use Rattle.host_tables.specs.Updates.{home_at}
use Rattle.host_tables.specs.declared.calls.Request.{Request}
use Rattle.host_tables.specs.declared.calls.Request.TheVariants.{Change as AChange, Fetch as AFetch}
use Rattle.host_tables.specs.declared.draft.Draft.{Draft}
use Rattle.host_tables.specs.declared.sites.Site.{Site}
use Rattle.host_tables.specs.declared.tables.Tables.{Tables}
use Rattle.message_types.specs.Soundness.{no_fid}
use Rattle.message_types.specs.declared.asking.Change.{Change as ChangeOf}
use Rattle.message_types.specs.declared.giving.Ends.{Ends}
use Rattle.message_types.specs.declared.giving.Give.{Give}
use Rattle.message_types.specs.declared.message.Body.{Body}
use Rattle.message_types.specs.declared.message.Body.TheVariants.{Bye, Change, Down, Fetch, Hello}
use Rattle.message_types.specs.declared.message.Body.TheVariants.{Reclaim as AReclaim, Returned}
use Rattle.message_types.specs.declared.message.Message.{Message}
use Rattle.run_rules.specs.Past.{In}
use Rattle.run_rules.specs.Runs.{IsFrom}
use Rattle.run_rules.specs.Steps.{bare}
use Rattle.run_rules.specs.declared.applied.Why.{Why}
use Rattle.run_rules.specs.declared.applied.Why.TheVariants.{Ended, Evicted, ForCall, Stopped}
use Rattle.run_rules.specs.declared.step.Cause.{Cause}
use Rattle.run_rules.specs.declared.step.Cause.TheVariants.{End, Evict, Lapse}
use Rattle.std.proofs.Common.{Bool, Err, List, None, Ok, Option, Result, Some, [], ap, false, fold, if◌then◌else◌}
use Rattle.std.proofs.Common.{inl, inr, is_none, not, refl, subst, sym, true, ℕ, ◌&&◌, ◌+◌, ◌∙◌, ◌∷◌, ◌≡◌}
use Rattle.std.specs.Option.{option_map_or}
use Rattle.token_types.specs.declared.token.Need.{Need}
use Rattle.token_types.specs.declared.token.Token.{Token}
use Rattle.token_types.specs.declared.token.TokenId.{TokenId}
use Rattle.tree_calls.specs.declared.call.Call.{Call}
use Rattle.tree_calls.specs.declared.reply.Refusal.{Refusal}

-- all that is sent is from the host
abbrev pub AllFrom : HostId → Draft → Type 0
AllFrom host d = (y : Message) → In y d.sent → IsFrom (Host host) y

-- tables and a draft go on: of the same host, and all that is sent is still from it
pub record GoesOn (m : Tables) (d : Draft) (new : Tables) (e : Draft) : Type 0 where
  pub host : new.host ≡ m.host
  pub from : AllFrom m.host d → AllFrom m.host e

pub then_on : (m : Tables) (d : Draft) (mid : Tables) (c : Draft) (new : Tables) (e : Draft) → GoesOn m d mid c
    → GoesOn mid c new e → GoesOn m d new e
then_on m d mid c new e a b = record {
  host = b.host ∙ a.host;
  from = λ f. subst (λ (h : HostId). AllFrom h e) a.host
      (b.from (subst (λ (h : HostId). AllFrom h c) (sym a.host) (a.from f)));
}

-- nothing is sent
pub silent_on : (m : Tables) (d : Draft) (new : Tables) (e : Draft) → new.host ≡ m.host → e.sent ≡ d.sent
    → GoesOn m d new e
silent_on m d new e host sent = record {
  host = host;
  from = λ f y i. f y (subst (λ (ys : List Message). In y ys) sent i);
}

-- # What is said
pub saying_from : (m : Tables) (v : ServerId) (b : Body) (d : Draft) → AllFrom m.host d → AllFrom m.host
    (saying m v b d)
saying_from m v b d f y i = elim (saying_says m v b d y i) [
  | inl j ↦ f y j
  | inr e ↦ subst (IsFrom (Host m.host)) (sym e) (refl, refl)
]

pub fold_from : {A : Type 0} (host : HostId) (f : Draft → A → Draft)
    → ((d : Draft) (x : A) → AllFrom host d → AllFrom host (f d x)) → (d : Draft) (xs : List A) → AllFrom host d
    → AllFrom host (fold f d xs)
fold_from host f one d [] all = all
fold_from host f one d (x ∷ xs) all = fold_from host f one (f d x) xs (one d x all)

pub giving_from : (m : Tables) (d : Draft) (fs : FilesetId) → AllFrom m.host d → AllFrom m.host (sending_give m d fs)
giving_from m d fs all = by_one (outstanding m.gives fs)
  where
    by_one : (o : Option Message)
        → AllFrom m.host (option_map_or (λ message. saying m (home_at fs) message.body d) o d)
    by_one None = all
    by_one (Some z) = saying_from m (home_at fs) z.body d all

pub due_from : (m : Tables) (d : Draft) → AllFrom m.host d → AllFrom m.host (sending_due m d)
due_from m d all = fold_from m.host (sending_give m) (giving_from m) d d.due all

pub request_from : (m : Tables) (r : Option Request) (d : Draft) → AllFrom m.host d
    → AllFrom m.host (sending_request m r d)
request_from m None d all = all
request_from m (Some (AFetch f)) d all = saying_from m (home_at f.fid.fileset) (Fetch f) d all
request_from m (Some (AChange v c)) d all = saying_from m v (Change c) d all

returning_from : (m : Tables) (fid : Fid) (ids : List TokenId) (d : Draft) → AllFrom m.host d
    → AllFrom m.host (returning m fid ids d)
returning_from m fid [] d all = all
returning_from m fid (i ∷ ids) d all =
    saying_from m (home_at fid.fileset) (Returned (record { fid = fid; ids = i ∷ ids })) d all

pub where_from : (m : Tables) (b : Bool) (v : ServerId) (body : Body) (d : Draft) → AllFrom m.host d
    → AllFrom m.host (if b then saying m v body d else d)
where_from m true v body d all = saying_from m v body d all
where_from m false v body d all = all

-- # Tokens leave
making_sent : (m : Tables) (g : Give) (d : Draft) → (making m g d).sent ≡ d.sent
making_sent m g d = by_due (is_none (outstanding m.gives g.fid.fileset))
  where
    by_due : (b : Bool) → (if b then record d { due = with_once d.due g.fid.fileset } else d).sent ≡ d.sent
    by_due true = refl
    by_due false = refl

gives_on : (m : Tables) (d : Draft) (fid : Fid) (giving leaving : List Token) (ends : Option Ends) (new : Tables)
    (e : Draft) → Gives m d fid giving leaving ends new e → GoesOn m d new e
gives_on m d fid giving leaving ends new e its = silent_on m d new e (ap (λ (x : Tables). x.host) its.tables)
    (ap (λ (x : Draft). x.sent) its.draft_is ∙ making_sent m (record its.give { ends = ends }) d)

where_on : (m : Tables) (d : Draft) (fid : Fid) (giving leaving : List Token) (new : Tables) (e : Draft)
    → GivesWhere m d fid giving leaving new e → GoesOn m d new e
where_on m d fid [] leaving new e its = silent_on m d new e (ap (λ (x : Tables). x.host) its.0)
    (ap (λ (x : Draft). x.sent) its.1)
where_on m d fid (t ∷ ts) leaving new e its = gives_on m d fid (t ∷ ts) leaving None new e its

drops_on : (m : Tables) (d : Draft) (tokens : List Token) (why : Why) (new : Tables) (e : Draft)
    → Drops m d tokens why new e → GoesOn m d new e
drops_on m d tokens why new e its = silent_on m d new e (ap (λ (x : Tables). x.host) its.tables)
    (ap (λ (x : Draft). x.sent) its.draft_is)

pub leaves_on : (m : Tables) (d : Draft) (fid : Fid) (tokens : List Token) (why : Why) (back : List TokenId)
    (new : Tables)
    (e : Draft) → Leaves m d fid tokens why back new e → GoesOn m d new e
leaves_on m d fid tokens why back new e its =
    let given = where_on m d fid its.giving tokens its.given its.made its.gives in
    let dropped = drops_on its.given its.made tokens why new its.dropped its.drops in
    let both = then_on m d its.given its.made new its.dropped given dropped in record {
      host = both.host;
      from = λ f.
          let all = subst (λ (h : HostId). AllFrom h its.dropped) (sym both.host) (both.from f) in
          subst (λ (h : HostId). AllFrom h e) both.host (subst (AllFrom new.host) (sym its.draft_is)
          (returning_from new fid (returned_ids tokens its.giving back) its.dropped all));
    }

given_on : (m : Tables) (d : Draft) (fid : Fid) (tokens : List Token) (ends : Option Ends) (new : Tables) (e : Draft)
    → LeavesGiven m d fid tokens ends new e → GoesOn m d new e
given_on m d fid tokens ends new e its = then_on m d its.given its.made new e
    (gives_on m d fid tokens tokens ends its.given its.made its.gives)
    (drops_on its.given its.made tokens ForCall new e its.drops)

dirty_on : (m : Tables) (d : Draft) (fid : Fid) (tokens : List Token) (new : Tables) (e : Draft)
    → LeavesWhere m d fid tokens new e → GoesOn m d new e
dirty_on m d fid [] new e its = silent_on m d new e (ap (λ (x : Tables). x.host) its.0)
    (ap (λ (x : Draft). x.sent) its.1)
dirty_on m d fid (t ∷ ts) new e its = given_on m d fid (t ∷ ts) None new e its

-- # The open call is gone on with
coming_on : (v : ServerId) (at : Doing) → GoesOn at.tables at.draft (coming_to v at).tables (coming_to v at).draft
coming_on v at = by_greeted (site_at at.tables.sites v).greeted
  where
    by_greeted : (b : Bool) → GoesOn at.tables at.draft (if b then at else greeting v at).tables
        (if b then at else greeting v at).draft
    by_greeted true = record { host = refl; from = λ f. f }
    by_greeted false = record { host = refl; from = saying_from (with_greeted at.tables v) v Hello at.draft }

changing_on : (v : ServerId) (c : ChangeOf) (at : Doing)
    → GoesOn at.tables at.draft (changing v c at).tables (changing v c at).draft
changing_on v c at = record {
  host = refl;
  from = request_from (with_asked at.tables v c) (Some (AChange v c)) at.draft;
}

question_on : (q : Question) (k : ℕ) (call : Call) (at : Doing)
    → GoesOn at.tables at.draft (asking_question q k call at).tables (asking_question q k call at).draft
question_on q k call at =
    by_may (next_change at.tables (server_of q) (fileset_of q) no_fid (is_entering q) k call) (may_ask (server_of q) at)
  where
    by_may : (c : ChangeOf) (b : Bool) → GoesOn at.tables at.draft
        (if b then changing (server_of q) c at else coming_to (server_of q) at).tables
        (if b then changing (server_of q) c at else coming_to (server_of q) at).draft
    by_may c true = changing_on (server_of q) c at
    by_may c false = coming_on (server_of q) at

-- by what is done
pub on_by : (old new other : Doing) → new ≡ other → GoesOn old.tables old.draft other.tables other.draft
    → GoesOn old.tables old.draft new.tables new.draft
on_by old new other is on =
    subst (λ (z : Doing). GoesOn old.tables old.draft z.tables z.draft) (sym is) on

pub stays_on : (old new : Doing) → new ≡ old → GoesOn old.tables old.draft new.tables new.draft
stays_on old new is = on_by old new old is (record { host = refl; from = λ f. f })

asks_on : (need : Need) (k : ℕ) (call : Call) (old new : Doing) → AsksFor need k call old new
    → GoesOn old.tables old.draft new.tables new.draft
asks_on need k call old new (Waits kind gives is) = stays_on old new is
asks_on need k call old new (Comes kind may is) =
    on_by old new (coming_to (home_at need.fid.fileset) old) is (coming_on (home_at need.fid.fileset) old)
asks_on need k call old new (Changes kind may is) =
    let c = next_change old.tables (home_at need.fid.fileset) need.fid.fileset need.fid false k call in
    on_by old new (changing (home_at need.fid.fileset) c old) is (changing_on (home_at need.fid.fileset) c old)
asks_on need k call old new (FetchesIt kind gives may its) =
    on_by old new (fetching its.fetch old) its.after (record {
      host = refl;
      from = request_from (with_fetching old.tables its.fetch) (Some (AFetch its.fetch)) old.draft;
    })

ends_on : (m : Tables) (d : Draft) (lock : Bool) (label : List ℕ) (used : UseOf) (new : Tables)
    → EndsUse m lock label used new → GoesOn m d new d
ends_on m d lock label used new its = silent_on m d new d (ap (λ (x : Tables). x.host) its.tables) refl

use_on : (lock : Bool) (label : List ℕ) (k : ℕ) (old new : Doing) → GivesUse lock label k old new
    → GoesOn old.tables old.draft new.tables new.draft
use_on lock label k old new (HasEnded busy is) = stays_on old new is
use_on lock label k old new (IsUnused none is) = stays_on old new is
use_on lock label k old new (IsLost idle used e lost ended ends is) =
    on_by old new (doing ended old.draft) is (ends_on old.tables old.draft lock label used ended ends)
use_on lock label k old new (EndsIt idle used e ended ends leaves) =
    let mid : Tables = record ended { ending = Some (labelled used) } in
    let first = ends_on old.tables old.draft lock label used ended ends in
    then_on old.tables old.draft mid old.draft new.tables new.draft
    (record { host = first.host; from = first.from })
    (given_on mid old.draft used.token.fid (used.token ∷ [])
    (Some (record { k = k; call = ending_of lock label })) new.tables new.draft leaves)

own_on : (call : Call) (m : Tables) (d : Draft) (new : Tables) (e : Draft) (v : Result Verdict Refusal)
    → ChangesOwn call m d new e v → GoesOn m d new e
own_on call m d new e _ (WritesIt fid from to its is) =
    silent_on m d new e (ap (λ (x : Tables). x.host) its.tables) (ap (λ (x : Draft). x.sent) is)
own_on call m d new e _ (UsesIt fid kind label taken its) =
    silent_on m d new e (ap (λ (x : Tables). x.host) its.takes.tables) (ap (λ (x : Draft). x.sent) its.draft_is)
own_on call m d new e _ (FreesIt its is) =
    silent_on m d new e (ap (λ (x : Tables). x.host) its.ends.tables) (ap (λ (x : Draft). x.sent) is)
own_on call m d new e _ (KeepsAll verdict nothing same is) =
    silent_on m d new e (ap (λ (x : Tables). x.host) same) (ap (λ (x : Draft). x.sent) is)

answered_on : (k : ℕ) (call : Call) (first : Bool) (v : Result Verdict Refusal) (m : Tables) (d : Draft)
    (new : Tables) (e : Draft) → Answered k call first v m d new e → GoesOn m d new e
answered_on k call first v m d new e its =
    let own = own_on call m d new its.own v its.changes in
    then_on m d new its.own new e own (silent_on new its.own new e refl (ap (λ (x : Draft). x.sent) its.draft_is))

settles_on : (k : ℕ) (call : Call) (first : Bool) (old new : Doing) (v : Result Verdict Refusal) (answered : Bool)
    → Settles k call first old new v answered → GoesOn old.tables old.draft new.tables new.draft
settles_on k call first old new _ _ (SyncsIt fid its) =
    dirty_on old.tables old.draft fid its.tokens new.tables new.draft its.leaves
settles_on k call first old new _ _ (GivesIt its) = use_on its.lock its.label k old new its.gives
settles_on k call first old new _ _ (AsksIt question is) =
    on_by old new (asking_question question k call old) is (question_on question k call old)
settles_on k call first old new _ _ (AnswersIt verdict its) =
    answered_on k call first verdict old.tables old.draft new.tables new.draft its

marks_on : (m : Tables) (d : Draft) (call : Call) (root : Fid) (path : List (List ℕ)) (v : Result Verdict Refusal)
    (new : Tables) → MarksUsed m call root path v new → GoesOn m d new d
marks_on m d call root path v new its = silent_on m d new d (ap (λ (x : Tables). x.host) its.tables) refl

marks_where_on : (b : Bool) (m : Tables) (d : Draft) (call : Call) (root : Fid) (path : List (List ℕ))
    (v : Result Verdict Refusal) (new : Tables) → MarksWhere b m call root path v new → GoesOn m d new d
marks_where_on true m d call root path v new its = marks_on m d call root path v new its
marks_where_on false m d call root path v new its = silent_on m d new d (ap (λ (x : Tables). x.host) its) refl

pub goes_on : (k : ℕ) (call : Call) (first : Bool) (old new : Doing) (answered : Bool)
    → Goes k call first old new answered → GoesOn old.tables old.draft new.tables new.draft
goes_on k call first old new _ (GoesWaits busy is) = stays_on old new is
goes_on k call first old new _ (GoesEnds idle verdict so no_sync answered its) =
    settles_on k call first old new verdict answered its
goes_on k call first old new _ (LacksIt idle root path so need walked its) = asks_on need k call old new its
goes_on k call first old new _ (Finds idle root path so verdict walked leads marked marks answered its) =
    then_on old.tables old.draft marked old.draft new.tables new.draft
    (marks_where_on (is_settled (Ok verdict)) old.tables old.draft call root path (Ok verdict) marked marks)
    (settles_on k call first (doing marked old.draft) new (Ok verdict) answered its)
goes_on k call first old new _ (IsRefused idle root path so refusal walked marked marks its) =
    then_on old.tables old.draft marked old.draft new.tables new.draft
    (marks_on old.tables old.draft call root path (Err refusal) marked marks)
    (settles_on k call first (doing marked old.draft) new (Err refusal) true its)

-- # Whole steps
none_sent : (host : HostId) → AllFrom host no_draft
none_sent host y i = elim i [ ]

-- a draft made so is of a step of the host's own
pub own_step : (m : Tables) (cause : Cause) (d : Draft) → AllFrom m.host d → IsOwn m (step_of (Host m.host) cause d)
own_step m cause d all = record { node = refl; from = all }

pub bare_own : (m : Tables) (cause : Cause) → IsOwn m (bare (Host m.host) cause)
bare_own m cause = record { node = refl; from = λ y i. elim i [ ] }

-- what is due is sent after it
pub then_due : (m : Tables) (d : Draft) (new : Tables) (e after : Draft) → GoesOn m d new e → after ≡ sending_due new e
    → AllFrom m.host d → AllFrom m.host after
then_due m d new e after on is all =
    let there = subst (λ (h : HostId). AllFrom h e) (sym on.host) (on.from all) in
    subst (λ (h : HostId). AllFrom h after) on.host
    (subst (AllFrom new.host) (sym is) (due_from new e there))

pub begins_from : (m : Tables) (d : Draft) (call : Call) (new : Tables) (after : Draft)
    → BeginsIt m d call new after → AllFrom m.host d → AllFrom m.host after
begins_from m d call new after its all =
    let gone = goes_on (m.begun + 1) call true (begun_at (m.begun + 1) (doing m d)) its.begins.gone its.begins.answered
    its.begins.goes in
    let begun : GoesOn m d new its.begun =
    subst (λ (z : Doing). GoesOn m d z.tables z.draft) (sym its.begins.after) (by_answered its.begins.answered gone) in
    then_due m d new its.begun after begun its.sends all
  where
    by_answered : (b : Bool) → GoesOn (record m { begun = m.begun + 1; lost = [] }) d its.begins.gone.tables
        its.begins.gone.draft
        → GoesOn m d
        (if b then its.begins.gone else left_open (record { k = m.begun + 1; call = call }) its.begins.gone).tables
        (if b then its.begins.gone else left_open (record { k = m.begun + 1; call = call }) its.begins.gone).draft
    by_answered true on = record { host = on.host; from = on.from }
    by_answered false on = record { host = on.host; from = on.from }

pub evicts_own : (m new : Tables) (after : Draft) (t : Token) → EvictsIt m no_draft t new after
    → IsOwn m (step_of (Host m.host) Evict after)
evicts_own m new after t its = own_step m Evict after
    (then_due m no_draft new its.left after
    (leaves_on m no_draft t.fid (t ∷ []) Evicted [] new its.left its.leaves) its.sends (none_sent m.host))

file_on : (m : Tables) (d : Draft) (fid : Fid) (new : Tables) (e : Draft) → LeavesFile m d fid new e
    → GoesOn m d new e
file_on m d fid new e (HasLeft none same is) =
    silent_on m d new e (ap (λ (x : Tables). x.host) same) (ap (λ (x : Draft). x.sent) is)
file_on m d fid new e (NowLeaves some its) = leaves_on m d fid (tokens_at m fid) Ended [] new e its

each_on : (ts : List Token) (m : Tables) (d : Draft) (new : Tables) (e : Draft) → LeavesEach ts m d new e
    → GoesOn m d new e
each_on _ _ _ _ _ (NoneLeft m d) = record { host = refl; from = λ f. f }
each_on _ _ _ _ _ (OneLeaves t ts m mid new d c e before file) =
    then_on m d mid c new e (each_on ts m d mid c before) (file_on mid c t.fid new e file)

parting_from : (m : Tables) (d : Draft) (site : Site) → AllFrom m.host d → AllFrom m.host (parting m d site)
parting_from m d site all = where_from m (is_to_part site) site.server Bye d all

pub ends_own : (m new : Tables) (after : Draft) (b : Bool) → EndsNext m no_draft new after b
    → IsOwn m (step_of (Host m.host) End after)
ends_own m new after _ (EndsLabel call first begins) =
    own_step m End after (begins_from m no_draft call new after begins (none_sent m.host))
ends_own m new after _ (LeavesAll labels some its) =
    own_step m End after (then_due m no_draft new its.left after
    (each_on (tokens_of m.cache.held) m no_draft new its.left its.leaves) its.sends (none_sent m.host))
ends_own m new after _ (Awaits labels held given same is) =
    own_step m End after (subst (AllFrom m.host) (sym is) (none_sent m.host))
ends_own m new after _ (Parts some labels held given tables is said) =
    own_step m End after (subst (AllFrom m.host) (sym is)
    (fold_from m.host (parting m) (parting_from m) no_draft m.sites (none_sent m.host)))

pub stop_own : (m new : Tables) (after : Draft) (cause : Cause) → GoesDown m no_draft new after
    → IsOwn m (step_of (Host m.host) cause after)
stop_own m new after cause its =
    let on = drops_on m no_draft (tokens_of m.cache.held) Stopped new its.dropped its.drops in
    let all = subst (λ (h : HostId). AllFrom h its.dropped) (sym on.host) (on.from (none_sent m.host)) in
    own_step m cause after (subst (λ (h : HostId). AllFrom h after) on.host (subst (AllFrom new.host) (sym its.says)
    (fold_from new.host (downing new) (λ d site f. saying_from new site.server Down d f) its.dropped new.sites all)))

pub lapse_own : (m : Tables) → IsOwn m (step_of (Host m.host) Lapse (repeating m no_draft))
lapse_own m =
    let greeted = fold (helloing m) no_draft m.sites in
    let given = fold (sending_give m) greeted (filesets_given m.gives.gives) in
    let claimed = fold (claiming_again m) given m.sites in
    let asked = sending_request m m.request claimed in
    own_step m Lapse (repeating m no_draft)
    (fold_from m.host (parting_again m)
    (λ d site f. where_from m (site.said_bye && not site.has_bye) site.server Bye d f) asked m.sites
    (request_from m m.request claimed
    (fold_from m.host (claiming_again m)
    (λ d site f. where_from m site.claimed site.server (AReclaim (claim_of m site.server)) d f) given m.sites
    (fold_from m.host (sending_give m) (giving_from m) greeted (filesets_given m.gives.gives)
    (fold_from m.host (helloing m)
    (λ d site f. where_from m (site.greeted && not site.welcome) site.server Hello d f) no_draft m.sites
    (none_sent m.host))))))
