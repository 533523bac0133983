-- What a step by a message sends is the host's own.
use Rattle.base_types.specs.declared.ids.Fid.{Fid}
use Rattle.base_types.specs.declared.ids.FilesetId.{FilesetId}
use Rattle.base_types.specs.declared.ids.Node.TheVariants.{Host}
use Rattle.base_types.specs.declared.ids.ServerId.{ServerId}
use Rattle.host_asks.specs.Asking.{Doing, doing}
use Rattle.host_asks.specs.Claiming.{claim_of}
use Rattle.host_asks.specs.Going.{GoesOn as CallGoesOn}
use Rattle.host_asks.specs.Going.GoesOn.{IsNone, IsOpen}
use Rattle.host_leaves.specs.Giving.{ids_of}
use Rattle.host_leaves.specs.Revoking.{LeaveAll, Revokes, fids_of, is_lost, keeping_all, keeping_file, of_file}
use Rattle.host_leaves.specs.Revoking.{others_of}
use Rattle.host_leaves.specs.Revoking.{pinned_all, sending_given, with_lost, with_lost_where, with_raised}
use Rattle.host_leaves.specs.Revoking.LeaveAll.{FileLeaves, NoneLeft}
use Rattle.host_gives.specs.Giving.{after_take_out, is_outstanding, outstanding, taken_out}
use Rattle.host_leaves.specs.Sending.{filesets_given, saying, sending_give, sending_request, with_once}
use Rattle.host_manager.proofs.Owned.{AllFrom, GoesOn, fold_from, giving_from, goes_on, leaves_on, on_by, own_step}
use Rattle.host_manager.proofs.Owned.{request_from, saying_from, silent_on, stays_on, then_due, then_on}
use Rattle.host_manager.specs.Due.{IsOwn}
use Rattle.host_manager.specs.Learning.{UsesBring, due_after, ended_by, ends_in, learning_given, renewed}
use Rattle.host_manager.specs.Learning.{without_give}
use Rattle.host_manager.specs.Learning.UsesBring.{MayNot, UsesIt}
use Rattle.host_manager.specs.Learning.{brings_uses, closed_by}
use Rattle.host_manager.specs.Taking.{HearsMessage, Takes, TakesBody, bye_again, claimed_at, hearing, hearing_epoch}
use Rattle.host_manager.specs.Taking.{is_asked_at, put_site_in, reclaiming, request_again, restarting, sending_each}
use Rattle.host_manager.specs.Taking.{sending_to, told_by}
use Rattle.host_manager.specs.Taking.Takes.{HadRestarted, HasParted, HasRestarted, Hears, IsOld, Passes, TakesIt}
use Rattle.host_manager.specs.Taking.TakesBody.{IsDone, IsGone, IsGrant, IsLateDone, IsLateGrant, IsOther, IsRevoke}
use Rattle.host_tables.specs.Drafts.{no_draft, step_of}
use Rattle.host_tables.specs.Tables.{floor_of, site_at}
use Rattle.host_tables.specs.Updates.{home_at, with_floor}
use Rattle.host_tables.specs.declared.draft.Draft.{Draft}
use Rattle.host_tables.specs.declared.sites.Site.{Site}
use Rattle.host_tables.specs.declared.tables.Tables.{Tables}
use Rattle.message_types.specs.declared.giving.AppliedGive.{AppliedGive}
use Rattle.message_types.specs.declared.giving.Reclaimed.{Reclaimed as ReclaimedOf}
use Rattle.message_types.specs.declared.message.Body.{Body}
use Rattle.message_types.specs.declared.message.Body.TheVariants.{Bye, Kept, Reclaim as AReclaim}
use Rattle.message_types.specs.declared.message.Message.{Message}
use Rattle.message_types.specs.declared.telling.DoneIs.{DoneIs}
use Rattle.message_types.specs.declared.telling.DoneIs.TheVariants.{Known, Reply as HasReply}
use Rattle.message_types.specs.declared.telling.Bring.{Bring}
use Rattle.message_types.specs.declared.telling.Grant.{Grant}
use Rattle.message_types.specs.declared.tokens.Revoke.{Revoke as RevokeOf}
use Rattle.run_rules.specs.declared.applied.Why.TheVariants.{Revoked}
use Rattle.run_rules.specs.declared.step.Cause.TheVariants.{Message as Came}
use Rattle.std.proofs.Common.{Bool, List, None, Option, Some, [], ap, false, fold, if◌then◌else◌, is_some}
use Rattle.std.proofs.Common.{not}
use Rattle.std.proofs.Common.{nat_lt, refl, subst, sym, true, ℕ, ◌&&◌, ◌==◌, ◌∷◌, ◌≡◌}
use Rattle.std.specs.Option.{option_map_or}
use Rattle.token_types.specs.declared.token.Token.{Token}
use Rattle.token_types.specs.declared.token.TokenId.{TokenId}

abbrev On : Doing → Doing → Type 0
On old new = GoesOn old.tables old.draft new.tables new.draft

silent : (old new : Doing) → new.tables.host ≡ old.tables.host → new.draft.sent ≡ old.draft.sent → On old new
silent old new host sent = silent_on old.tables old.draft new.tables new.draft host sent

then_goes : (a b c : Doing) → On a b → On b c → On a c
then_goes a b c first rest = then_on a.tables a.draft b.tables b.draft c.tables c.draft first rest

-- the open call is gone on with
call_on : (old new : Doing) → CallGoesOn old new → On old new
call_on old new (IsNone none is) = stays_on old new is
call_on old new (IsOpen c e gone answered goes is) =
    let silenced : Doing = record old { tables = record old.tables { call = None } } in
    let went = goes_on c.k c.call false silenced gone answered goes in
    on_by old new (if answered then gone else record gone { tables = record gone.tables { call = Some c } }) is
    (by_answered answered (record { host = went.host; from = went.from }))
  where
    by_answered : (b : Bool) → On old gone
        → On old (if b then gone else record gone { tables = record gone.tables { call = Some c } })
    by_answered true on = on
    by_answered false on = record { host = on.host; from = on.from }

-- # What is learnt
ended_host : (y : Message) (m : Tables) → (ended_by y m).host ≡ m.host
ended_host y m = by_ends (is_some (ends_in y))
  where
    by_ends : (b : Bool) → (if b then record m { ending = None; call = closed_by (ends_in y) m.call } else m).host
        ≡ m.host
    by_ends true = refl
    by_ends false = refl

due_sent : (n : AppliedGive) (m : Tables) (d : Draft) → (due_after n m d).sent ≡ d.sent
due_sent n m d = by_due (is_outstanding m.gives n.fileset n.number
    && is_some (outstanding (after_take_out m.gives n.fileset n.number) n.fileset))
  where
    by_due : (b : Bool) → (if b then record d { due = with_once d.due n.fileset } else d).sent ≡ d.sent
    by_due true = refl
    by_due false = refl

given_on : (n : AppliedGive) (at : Doing) → On at (learning_given n at)
given_on n at = by_taken (taken_out at.tables.gives n.fileset n.number)
  where
    by_taken : (o : Option Message) → On at (option_map_or
        (λ message. doing (ended_by message (without_give n at.tables)) (due_after n at.tables at.draft)) o at)
    by_taken None = record { host = refl; from = λ f. f }
    by_taken (Some y) =
        silent at (doing (ended_by y (without_give n at.tables)) (due_after n at.tables at.draft))
        (ended_host y (without_give n at.tables)) (due_sent n at.tables at.draft)

all_given_on : (ns : List AppliedGive) (at : Doing) → On at (fold (λ now n. learning_given n now) at ns)
all_given_on [] at = record { host = refl; from = λ f. f }
all_given_on (n ∷ ns) at = then_goes at (learning_given n at)
    (fold (λ now n. learning_given n now) (learning_given n at) ns) (given_on n at)
    (all_given_on ns (learning_given n at))

uses_on : (bring : Bring) (grant : Option Grant) (m : Tables) (d : Draft) (new : Tables) (e : Draft)
    → UsesBring bring grant m d new e → GoesOn m d new e
uses_on bring grant m d new e (MayNot none same is) =
    silent_on m d new e (ap (λ (x : Tables). x.host) same) (ap (λ (x : Draft). x.sent) is)
uses_on bring grant m d new e (UsesIt may has) =
    silent_on m d new e (ap (λ (x : Tables). x.host) has.tables) (ap (λ (x : Draft). x.sent) has.draft_is)

told_host : (is : DoneIs) (m : Tables) → (told_by is m).host ≡ m.host
told_host (Known id) m = refl
told_host (HasReply reply) m = refl
told_host _ m = refl

-- # What is said again
given_to : (m : Tables) (v : ServerId) (d : Draft) (fs : FilesetId) → AllFrom m.host d
    → AllFrom m.host (sending_to m v d fs)
given_to m v d fs all = by_home ((home_at fs).0 == v.0)
  where
    by_home : (b : Bool) → AllFrom m.host (if b then sending_give m d fs else d)
    by_home true = giving_from m d fs all
    by_home false = all

restart_on : (v : ServerId) (epoch : ℕ) (at : Doing) → On at (restarting v epoch at)
restart_on v epoch at = by_greeted (site_at (renewed v epoch at.tables).sites v).greeted
  where
    by_greeted : (b : Bool) → On at (if b then claimed_at v (renewed v epoch at.tables) at.draft
        else doing (renewed v epoch at.tables) at.draft)
    by_greeted false = record { host = refl; from = λ f. f }
    by_greeted true =
        let m : Tables = (claimed_at v (renewed v epoch at.tables) at.draft).tables in record {
          host = refl;
          from = λ f. saying_from m v (AReclaim (claim_of m v)) (sending_each m v at.draft)
              (fold_from m.host (sending_to m v) (given_to m v) at.draft (filesets_given m.gives.gives) f);
        }

request_on : (v : ServerId) (at : Doing) → On at (request_again v at)
request_on v at = by_asked (is_asked_at v at.tables.request)
  where
    by_asked : (b : Bool) → On at (if b then doing at.tables (sending_request at.tables at.tables.request at.draft)
        else at)
    by_asked true = record { host = refl; from = λ f. request_from at.tables at.tables.request at.draft f }
    by_asked false = record { host = refl; from = λ f. f }

bye_on : (site : Site) (at : Doing) → On at (bye_again site at)
bye_on site at = by_said (site.said_bye && not site.has_bye)
  where
    by_said : (b : Bool) → On at (if b then doing at.tables (saying at.tables site.server Bye at.draft) else at)
    by_said true = record { host = refl; from = λ f. saying_from at.tables site.server Bye at.draft f }
    by_said false = record { host = refl; from = λ f. f }

reclaims_on : (site : Site) (a : ReclaimedOf) (at : Doing) → On at (reclaiming site a at)
reclaims_on site a at =
    let first : Doing = doing (put_site_in (record site { claimed = false }) at.tables) at.draft in
    let learnt = fold (λ now n. learning_given n now) first a.applied in
    then_goes at learnt (reclaiming site a at) (then_goes at first learnt (record { host = refl; from = λ f. f })
    (all_given_on a.applied first))
    (then_goes learnt (request_again site.server learnt) (reclaiming site a at) (request_on site.server learnt)
    (bye_on site (request_again site.server learnt)))

hears_on : (message : Message) (a : ReclaimedOf) (at : Doing) → On at (hearing message a at)
hears_on message a at =
    let heard = hearing_epoch message a at in
    then_goes at heard (hearing message a at) (by_epoch (site_at at.tables.sites message.server)
    (message.epoch == (site_at at.tables.sites message.server).epoch)) (record { host = refl; from = λ f. f })
  where
    by_epoch : (site : Site) (b : Bool) → On at (if b then reclaiming site a at
        else doing (renewed message.server message.epoch at.tables) at.draft)
    by_epoch site true = reclaims_on site a at
    by_epoch site false = record { host = refl; from = λ f. f }

-- # A Revoke
lost_on : (fid : Fid) (tokens : List Token) (m : Tables) → (with_lost_where fid tokens m).host ≡ m.host
lost_on fid tokens m = by_lost (is_lost fid tokens m)
  where
    by_lost : (b : Bool) → (if b then record m { lost = with_lost fid m.lost } else m).host ≡ m.host
    by_lost true = refl
    by_lost false = refl

raised_host : (fid : Fid) (stamp : ℕ) (m : Tables) → (with_raised fid stamp m).host ≡ m.host
raised_host fid stamp m = by_low (nat_lt (floor_of m.floors fid) stamp)
  where
    by_low : (b : Bool) → (if b then record m { floors = with_floor (record { fid = fid; stamp = stamp }) m.floors }
        else m).host ≡ m.host
    by_low true = refl
    by_low false = refl

leave_on : (tokens : List Token) (fids : List Fid) (back : List TokenId) (m : Tables) (d : Draft) (new : Tables)
    (e : Draft) → LeaveAll tokens fids back m d new e → GoesOn m d new e
leave_on tokens _ _ _ _ _ _ (NoneLeft back m d) = record { host = refl; from = λ f. f }
leave_on tokens _ _ _ _ _ _ (FileLeaves fid fids back m between new d middle after leaves rest) =
    let lost : Tables = with_lost_where fid (of_file fid tokens) between in
    then_on m d between middle new after
    (leaves_on m d fid (of_file fid tokens) Revoked back between middle leaves)
    (then_on between middle lost middle new after
    (silent_on between middle lost middle (lost_on fid (of_file fid tokens) between) refl)
    (leave_on tokens fids [] lost middle new after rest))

revokes_on : (r : RevokeOf) (old new : Doing) → Revokes r old.tables old.draft new.tables new.draft → On old new
revokes_on r old new its =
    let m : Tables = with_raised r.fid r.stamp old.tables in
    let given = sending_given m its.sorted.given old.draft in
    let told = keeping_all m its.sorted.kept given in
    then_on old.tables old.draft m told new.tables new.draft
    (record {
      host = raised_host r.fid r.stamp old.tables;
      from = λ f. subst (λ h. AllFrom h told) (raised_host r.fid r.stamp old.tables)
          (fold_from m.host (keeping_file m its.sorted.kept)
          (λ d g all. saying_from m (home_at g.fileset)
          (Kept (record { fid = g; ids = ids_of (of_file g its.sorted.kept) })) d all) given (fids_of its.sorted.kept)
          (fold_from m.host (sending_give m) (giving_from m) old.draft its.sorted.given
          (subst (λ h. AllFrom h old.draft) (sym (raised_host r.fid r.stamp old.tables)) f)));
    })
    (then_on m told (pinned_all its.sorted.kept m) told new.tables new.draft
    (silent_on m told (pinned_all its.sorted.kept m) told refl refl)
    (leave_on its.sorted.left (r.fid ∷ others_of r.fid its.sorted.left) its.sorted.back
    (pinned_all its.sorted.kept m) told new.tables new.draft its.leaves))

-- # All messages
body_on : (server : ServerId) (old new : Doing) (body : Body) → TakesBody server old new body → On old new
body_on server old new _ (IsGone n goes) =
    then_goes old (learning_given n old) new (given_on n old) (call_on (learning_given n old) new goes)
body_on server old new _ (IsGrant g e used uses goes) =
    then_goes old used new (then_goes old (record old { tables = record old.tables { request = None } }) used
    (record { host = refl; from = λ f. f })
    (uses_on g.bring (Some g) (record old.tables { request = None }) old.draft used.tables used.draft uses))
    (call_on used new goes)
body_on server old new _ (IsDone d e used uses none goes) =
    let told : Doing = doing (told_by d.outcome old.tables) old.draft in
    then_goes old used new (then_goes old told used
    (silent old told (told_host d.outcome old.tables) refl) (by_uses (brings_uses d.bring) refl))
    (call_on used new goes)
  where
    by_uses : (b : Bool) → brings_uses d.bring ≡ b → On (doing (told_by d.outcome old.tables) old.draft) used
    by_uses true q = uses_on d.bring None (told_by d.outcome old.tables) old.draft used.tables used.draft (uses q)
    by_uses false q = stays_on (doing (told_by d.outcome old.tables) old.draft) used (none q)
body_on server old new _ (IsRevoke r revoked its sound goes) =
    then_goes old revoked new (revokes_on r old revoked its) (call_on revoked new goes)
body_on server old new _ (IsLateGrant g e is) = stays_on old new is
body_on server old new _ (IsLateDone d e is) = stays_on old new is
body_on server old new _ (IsOther body for_others is) = stays_on old new is

takes_on : (message : Message) (old new : Doing) (body : Body) → Takes message old new body → On old new
takes_on message old new _ (HasParted is) = on_by old new _ is (record { host = refl; from = λ f. f })
takes_on message old new _ (HasRestarted e is) =
    on_by old new (restarting message.server message.epoch old) is (restart_on message.server message.epoch old)
takes_on message old new _ (HadRestarted e is) = stays_on old new is
takes_on message old new _ (Hears a heard goes) =
    then_goes old (hearing message a old) new (hears_on message a old) (call_on (hearing message a old) new goes)
takes_on message old new _ (IsOld a not_heard is) = stays_on old new is
takes_on message old new _ (TakesIt body of_stay present takes) = body_on message.server old new body takes
takes_on message old new _ (Passes body of_stay other is) = stays_on old new is

pub takes_own : (m : Tables) (message : Message) (new : Tables) (after : Draft)
    → HearsMessage message m no_draft new after → IsOwn m (step_of (Host m.host) (Came message) after)
takes_own m message new after its =
    own_step m (Came message) after (then_due m no_draft new its.heard after
    (takes_on message (doing m no_draft) (doing new its.heard) message.body its.takes) its.sends
    (λ y i. elim i [ ]))
