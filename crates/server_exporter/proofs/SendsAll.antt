-- Each step of the loop over the wants that wait keeps what holds on the way.
use Rattle.std.proofs.Common.{◌≡◌, ◌<◌, ℕ, true, List, Option, None, Some, inl, inr, length, refl, sym, ◌∙◌, ap, subst}
use Rattle.std.specs.Prelude.{remove}
use Rattle.base_types.specs.declared.ids.ServerId.{ServerId}
use Rattle.tree_answers.specs.declared.tree.Tree.{Tree}
use Rattle.tree_calls.specs.declared.part.Status.{Status}
use Rattle.tree_calls.specs.declared.roster.Roster.{Roster}
use Rattle.token_manager.specs.declared.want.Outlook.TheVariants.{Granted as CanBeGranted}
use Rattle.message_types.specs.Soundness.{Each}
use Rattle.message_types.specs.declared.asking.Change.{Change as ChangeOf}
use Rattle.message_types.specs.declared.asking.Fetch.{Fetch as FetchOf}
use Rattle.message_types.specs.declared.message.Body.TheVariants.{Done as IsDone, Grant as IsGrant}
use Rattle.message_types.specs.declared.telling.DoneIs.{DoneIs}
use Rattle.message_types.specs.declared.telling.DoneIs.TheVariants.{Again, Known}
use Rattle.run_rules.specs.Doings.{Doing, NoGrace, sending}
use Rattle.run_rules.specs.Past.{In, appended}
use Rattle.run_rules.specs.ServerDecides.{IsOfRow}
use Rattle.run_rules.specs.ServerMay.{AnsweredSo}
use Rattle.run_rules.specs.ServerMay.AnsweredSo.{IsEntered, NamesOther}
use Rattle.run_rules.specs.Wants.{CanDecide, CanGrant, IsQueued}
use Rattle.run_rules.specs.declared.applied.Request.{Request}
use Rattle.run_rules.specs.declared.applied.Request.TheVariants.{Change as Changes, Fetch as Asks}
use Rattle.run_rules.specs.declared.applied.Wanted.{Wanted}
use Rattle.run_rules.specs.declared.step.Step.{Step}
use Rattle.server_decides.specs.Changes.{are_home}
use Rattle.server_decides.specs.StoreKeeping.{StandsFor}
use Rattle.token_types.specs.declared.token.Need.{Need}
use Rattle.store_memory.specs.Reading.{status_told}
use Rattle.store_state.specs.declared.state.StoreState.{StoreState}
use Rattle.server_decides.proofs.Asking.{changes_are_told}
use Rattle.server_tables.specs.Answers.{done_without}
use Rattle.server_tables.specs.Counting.{IsCounted}
use Rattle.server_tables.specs.Places.{is_of}
use Rattle.server_tables.specs.Updates.{unqueued}
use Rattle.server_tables.specs.declared.pending.Pending.{Pending}
use Rattle.server_tables.specs.declared.tables.Tables.{Tables}
use Rattle.server_tables.proofs.Counted.{counted_unqueued}
use Rattle.server_decides.specs.Drafts.{word}
use Rattle.server_decides.specs.Deciding.{IsPlaced, outlook_at}
use Rattle.server_decides.specs.Serving.{CameSo, IsServed}
use Rattle.server_decides.specs.Going.{GoesTo}
use Rattle.server_decides.specs.Sending.{IsAfter, IsSending, Looking, Sends, empty_of, grant_made, grant_of}
use Rattle.server_decides.specs.Sending.{granted_out}
use Rattle.server_decides.specs.Sending.{left_out, looking, said_made, sent_made, use_made, use_of}
use Rattle.server_decides.specs.declared.sending.Sending.{Sending}
use Rattle.server_exporter.proofs.Answered.{fetch_empty, fetch_told, said_told, use_told}
use Rattle.server_decides.proofs.Served.{users_stay}
use Rattle.server_decides.proofs.Chains.{goes_keeps}
use Rattle.server_exporter.proofs.Homes.{row_here}
use Rattle.server_exporter.proofs.Sendings.{Reason, fetch_granted, why}
use Rattle.server_exporter.proofs.Sendings.Reason.{HasEntered, IsOther, IsUsed}
use Rattle.server_exporter.proofs.Sends.{IsOnTheWay, done_only, grant_only, way_answered, way_passed}
use Rattle.server_decides.proofs.Served.{each_removed, placed_in}
use Rattle.server_exporter.proofs.Single.{single_renewed}

-- a want less waits, and all else that is known of the tables stays
pub served_out : (x y : Tables) (st : StoreState) → IsServed x st → (at number : ℕ) → at < length x.pending
    → y.server ≡ x.server → y.roster ≡ x.roster → y.pending ≡ remove x.pending at
    → (IsCounted (unqueued x at number) → IsCounted y) → IsServed y st
served_out x y st s at number inside v r p counted = record {
  store = record { server = s.store.server ∙ sym v; roster = s.store.roster ∙ sym r };
  users = users_stay x y r s.users;
  counted = counted (counted_unqueued x at number inside s.counted);
  asked = subst (λ (t : ServerId × Roster × List Pending). Each (λ (q : Pending). CameSo t.0 t.1 q.wanted) t.2)
      (λ i. (sym v i, sym r i, sym p i))
      (each_removed (λ (q : Pending). CameSo x.server x.roster q.wanted) x.pending at s.asked);
}

over_by : (server : ServerId) (past : List Doing) (w : Wanted) → CanDecide server past w → NoGrace past
over_by server past w (inl g) = g.over
over_by server past w (inr g) = g.over

module _ (server : ServerId) (tree : Tree) (st : StoreState) (s : Step) (before : List Doing)
    (k : StandsFor tree st) (homes : are_home tree ≡ true) where
  module _ (a : Looking) (g : IsOnTheWay server tree st s before k a) (p : Pending)
      (place : IsPlaced a.tables.pending a.at p) where
    abbrev x : Tables
    x = a.tables

    abbrev past : List Doing
    past = appended (sending a.draft.sent) before

    waits : IsQueued past p.wanted
    waits = g.stands.wants.pending p (placed_in x.pending a.at p place)

    -- a Fetch
    fetched : (f : FetchOf) → p.wanted.request ≡ Asks f → CanGrant x.server past p.wanted
        → outlook_at x p.number ≡ CanBeGranted → (o : Option Status) → status_told st f.fid ≡ o
        → IsOnTheWay server tree st s before k (looking (grant_made x a.draft st a.at p f o).tables
        (grant_made x a.draft st a.at p f o).draft a.at)
    fetched f is can ready (Some status) e =
        way_answered server tree st s before k a g p place (word x p.wanted.host (IsGrant (grant_of x st p f status)))
        (granted_out x a.at p.number)
        (fetch_told past x st tree g.stands g.served k a.at p place f is can ready status e)
        (grant_only past x g.stands p.wanted waits x.hosts.epoch 0 f is (grant_of x st p f status) refl refl)
        refl refl (served_out x (granted_out x a.at p.number) st g.served a.at p.number place.0 refl refl refl (λ c. c))
        g.single
    fetched f is can ready None e =
        way_answered server tree st s before k a g p place (word x p.wanted.host (IsGrant (empty_of x f)))
        (left_out x a.at p.number)
        (fetch_empty past x st tree g.stands g.served k a.at p place f is can e)
        (grant_only past x g.stands p.wanted waits x.hosts.epoch 0 f is (empty_of x f) refl refl)
        refl refl (served_out x (left_out x a.at p.number) st g.served a.at p.number place.0 refl refl refl (λ c. c))
        g.single

    -- a Change that is answered without a token
    said : (c : ChangeOf) → p.wanted.request ≡ Changes c → NoGrace past → (outcome : DoneIs)
        → AnsweredSo x.server tree past p.wanted c (done_without c.fileset outcome c.number)
        → IsOnTheWay server tree st s before k (looking
        (said_made x a.draft a.at p c.fileset c.number outcome).tables
        (said_made x a.draft a.at p c.fileset c.number outcome).draft a.at)
    said c is over outcome so =
        way_answered server tree st s before k a g p place
        (word x p.wanted.host (IsDone (done_without c.fileset outcome c.number)))
        (said_made x a.draft a.at p c.fileset c.number outcome).tables
        (said_told past x st tree g.stands g.served k g.single a.at p place c is over outcome so)
        (done_only past x g.stands p.wanted waits x.hosts.epoch 0 c is (done_without c.fileset outcome c.number) refl)
        refl refl
        (served_out x (said_made x a.draft a.at p c.fileset c.number outcome).tables st g.served a.at p.number place.0
        refl refl refl (λ n. n))
        (single_renewed (unqueued x a.at p.number) p.wanted.host
        (done_without c.fileset outcome c.number) None g.single)

    here_of : (c : ChangeOf) → IsOfRow tree p.wanted c → (need : Need) → In need p.wanted.needs
        → is_of x.server need.fid.fileset ≡ true
    here_of c row need i = subst (λ (v : ServerId). is_of v need.fid.fileset ≡ true) g.served.store.server
        (row_here tree st k homes p.wanted.host c need (subst (In need) row.0 i))

    changed : (c : ChangeOf) (is : p.wanted.request ≡ Changes c) (d : Sending)
        → Reason past x st tree g.stands g.served k p (placed_in x.pending a.at p place) c is d
        → IsOnTheWay server tree st s before k (looking (sent_made x a.draft st a.at p d).tables
        (sent_made x a.draft st a.at p d).draft a.at)
    changed c is d (IsUsed e u n row can ready) =
        subst (λ (t : Sending). IsOnTheWay server tree st s before k (looking (sent_made x a.draft st a.at p t).tables
        (sent_made x a.draft st a.at p t).draft a.at)) (sym e)
        (way_answered server tree st s before k a g p place
        (word x p.wanted.host (IsDone (use_of x p c.fileset c.number)))
        (use_made x a.draft a.at p c.fileset c.number).tables
        (use_told past x st tree g.stands g.served k g.single a.at p place c is u n row can ready (here_of c row))
        (done_only past x g.stands p.wanted waits x.hosts.epoch 0 c is (use_of x p c.fileset c.number) refl)
        refl refl
        (served_out x (use_made x a.draft a.at p c.fileset c.number).tables st g.served a.at p.number place.0
        refl refl refl (λ n. n))
        (single_renewed (granted_out x a.at p.number) p.wanted.host (use_of x p c.fileset c.number) None g.single))
    changed c is d (IsOther e u n row can) =
        subst (λ (t : Sending). IsOnTheWay server tree st s before k (looking (sent_made x a.draft st a.at p t).tables
        (sent_made x a.draft st a.at p t).draft a.at)) (sym e)
        (said c is (over_by x.server past p.wanted can) Again (NamesOther u n row can refl refl))
    changed c is d (HasEntered id e t told can) =
        let f = changes_are_told.entered tree st c.call id k told in
        subst (λ (t : Sending). IsOnTheWay server tree st s before k (looking (sent_made x a.draft st a.at p t).tables
        (sent_made x a.draft st a.at p t).draft a.at)) (sym e)
        (said c is can.over (Known id) (IsEntered f.fileset f.place t f.named f.found (ap Known (sym f.its)) refl))

    answered : (d : Sending) → IsSending x st p (Some d) → (r : Request) → p.wanted.request ≡ r
        → IsOnTheWay server tree st s before k (looking (sent_made x a.draft st a.at p d).tables
        (sent_made x a.draft st a.at p d).draft a.at)
    answered d h (Asks f) is =
        let q = fetch_granted past x st tree g.stands g.served k p (placed_in x.pending a.at p place) f is d h in
        subst (λ (t : Sending). IsOnTheWay server tree st s before k (looking (sent_made x a.draft st a.at p t).tables
        (sent_made x a.draft st a.at p t).draft a.at)) (sym q.0)
        (fetched f is q.1 q.2 (status_told st f.fid) refl)
    answered d h (Changes c) is =
        changed c is d (why past x st tree g.stands g.served k p (placed_in x.pending a.at p place) c is d h)

  pub sends_keep : (a b : Looking) → IsOnTheWay server tree st s before k a → Sends st a b
      → IsOnTheWay server tree st s before k b
  sends_keep a b g h = by h.sending h.is h.so
    where
      by : (o : Option Sending) → IsSending a.tables st h.p o → IsAfter st a h.p b o
          → IsOnTheWay server tree st s before k b
      by None is so = subst (IsOnTheWay server tree st s before k) (sym so)
          (way_passed server tree st s before k a g h.p h.place is)
      by (Some d) is so = subst (IsOnTheWay server tree st s before k) (sym so)
          (answered a g h.p h.place d is h.p.wanted.request refl)

  -- at the end all are allowed, and none that is left can be answered
  pub all_sent : (a b : Looking) → GoesTo (Sends st) a b → IsOnTheWay server tree st s before k a
      → IsOnTheWay server tree st s before k b
  all_sent a b r g = goes_keeps (Sends st) (IsOnTheWay server tree st s before k) sends_keep a b r g
