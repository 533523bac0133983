-- What is due of a step in which a Revoke is answered, and maybe a request of the open call said.
use Rattle.base_types.specs.declared.ids.Fid.{Fid}
use Rattle.base_types.specs.declared.ids.FilesetId.{FilesetId}
use Rattle.base_types.specs.declared.ids.ServerId.{ServerId}
use Rattle.host_asks.specs.Asking.{Doing}
use Rattle.host_cache.specs.Holding.{tokens_of}
use Rattle.host_gives.specs.Counters.{last_of}
use Rattle.host_gives.specs.Giving.{IsSound as IsSoundGives, given_in, is_outstanding, number_of, outstanding}
use Rattle.host_leaves.specs.Giving.{ids_of, leaves_by}
use Rattle.host_leaves.specs.Revoking.{Revokes, is_leaving, of_file, others_of, pinned, sorted_by}
use Rattle.host_leaves.specs.Sending.{message_to, sending_give}
use Rattle.host_manager.proofs.Folding.{fold_keeps, fold_says, giving_keeps, giving_says}
use Rattle.host_manager.proofs.PartSo.{HasParted, start}
use Rattle.host_manager.proofs.Repeated.{fileset_of, given_apart, sort_of}
use Rattle.host_manager.proofs.RevokeSees.{given_named}
use Rattle.host_manager.proofs.RevokesIt.{first_is, floors_by, raised_is, raises, told}
use Rattle.host_manager.proofs.SortedSo.{SortedSo}
use Rattle.host_manager.proofs.TurnDue.{IsNewIn, new_answered, new_sort}
use Rattle.host_manager.specs.Running.{IsRunning, RunsOn}
use Rattle.host_tables.proofs.Lists.{in_map, same_id_is}
use Rattle.host_tables.proofs.Outstanding.{first_outstanding, number_is, outstanding_is}
use Rattle.host_tables.proofs.RevokeSteps.{revoke_stands}
use Rattle.host_tables.proofs.Saying.{first_out}
use Rattle.host_tables.specs.Answering.{GivesForCall}
use Rattle.host_tables.specs.Drafts.{no_draft}
use Rattle.host_tables.specs.Half.{half}
use Rattle.host_tables.specs.LeavingSteps.{with_left}
use Rattle.host_tables.specs.RevokeSteps.{RevokeCounts}
use Rattle.host_tables.specs.Revoking.{revokes, revoking}
use Rattle.host_tables.specs.Saying.{IsFirst}
use Rattle.host_tables.specs.Stands.{Stands}
use Rattle.host_tables.specs.Tables.{held_of, site_at}
use Rattle.host_tables.specs.Updates.{home_at}
use Rattle.host_tables.specs.declared.calls.Request.{Request}
use Rattle.host_tables.specs.declared.draft.Draft.{Draft}
use Rattle.host_tables.specs.declared.numbers.Changed.{Changed}
use Rattle.host_tables.specs.declared.numbers.Fetched.{Fetched}
use Rattle.host_tables.specs.declared.sites.Site.{Site}
use Rattle.host_tables.specs.declared.tables.Tables.{Tables}
use Rattle.message_types.specs.Soundness.{IsSound}
use Rattle.message_types.specs.declared.giving.Give.{Give}
use Rattle.message_types.specs.declared.message.Body.{Body}
use Rattle.message_types.specs.declared.message.Body.TheVariants.{Bye, GiveBack, Hello, Kept, Reclaimed, Restarted}
use Rattle.message_types.specs.declared.message.Body.TheVariants.{Returned, Revoke}
use Rattle.message_types.specs.declared.message.Direction.TheVariants.{ToHost}
use Rattle.message_types.specs.declared.message.Message.{Message}
use Rattle.message_types.specs.declared.tokens.Named.{Named}
use Rattle.message_types.specs.declared.tokens.Revoke.{Revoke as RevokeOf}
use Rattle.run_rules.specs.HostAsks.{GoesTo}
use Rattle.run_rules.specs.HostDue.{AsksBack, HostDue, IsUnanswered, RevokeDue, SendsAgain}
use Rattle.run_rules.specs.Messages.{About, ComesIn, HasGreeted, IsWelcome, Sends, Stay, epoch_at}
use Rattle.run_rules.specs.Past.{EachOnce, In}
use Rattle.run_rules.specs.Tokens.{HasCall, Held as HeldBy, IsOpen, IsOutstanding, Made, Owns, end_of}
use Rattle.run_rules.specs.Views.{Stance}
use Rattle.run_rules.specs.declared.applied.Leave.{Leave}
use Rattle.run_rules.specs.declared.applied.Why.TheVariants.{Revoked}
use Rattle.run_rules.specs.declared.step.Asked.{Asked}
use Rattle.run_rules.specs.declared.step.Cause.TheVariants.{Lapse}
use Rattle.run_rules.specs.declared.step.Step.{Step}
use Rattle.script_lines.specs.declared.script.Script.{Script}
use Rattle.std.proofs.Common.{List, None, Option, Some, [], ap, arith, eqb-true, false, fold, inl, inr, map, refl}
use Rattle.std.proofs.Common.{subst, sym, true, ℕ, ◌==◌, ◌∙◌, ◌∷◌, ◌≡◌, ◌≤◌, ◌⊎◌}
use Rattle.std.proofs.lemmas.Bool.{and_parts}
use Rattle.std.specs.Option.{option_map_or}
use Rattle.token_types.specs.declared.token.Token.{Token}
use Rattle.token_types.specs.declared.token.TokenId.{TokenId}
use Rattle.tree_calls.specs.declared.call.Call.{Call}
use Rattle.tree_calls.specs.declared.call.Call.TheVariants.{Sync}
use Rattle.host_manager.proofs.RevokeDue as due_so
use Rattle.host_manager.proofs.RevokesIt as revoked_so
use Rattle.host_tables.proofs.Standing as standing
use Rattle.host_tables.proofs.Unanswered as unanswered

module _ (script : Script) (old : Tables) (past : List Step) (message : Message) (running : IsRunning script old past)
    (sound_m : IsSound script.roster message) (host_is : message.host ≡ old.host) (way : message.direction ≡ ToHost)
    (r : RevokeOf) (body : message.body ≡ Revoke r) (present : (site_at old.sites message.server).epoch ≡ message.epoch)
    (no_moves : message.moves ≡ 0) (sound : IsSoundGives old.gives) (revoked : Doing)
    (its : Revokes r old no_draft revoked.tables revoked.draft) (sound_new : IsSoundGives revoked.tables.gives) where
  abbrev m : Tables
  m = record old { floors = floors_by old r }

  abbrev m1 : Tables
  m1 = record old { floors = floors_by old r; uses = pinned old.uses its.sorted.kept }

  abbrev files : List Fid
  files = r.fid ∷ others_of r.fid its.sorted.left

  abbrev first : List Message
  first = (told m its.sorted.kept its.sorted.given).sent

  abbrev h : HasParted m1 its.sorted.left first r.fid its.sorted.back files revoked.tables revoked.draft
  h = revoked_so.h script old past message running sound_m host_is way r body present no_moves sound revoked its
      sound_new

  abbrev x : Tables
  x = record (with_left m h.l) { lost = h.lost }

  stands : Stands script old past
  stands = running.rests.stands

  sound_l : IsSoundGives h.l.gives
  sound_l = revoked_so.sound_l script old past message running sound_m host_is way r body present no_moves sound
      revoked its sound_new

  counts : RevokeCounts old past message.server message.epoch 0 r
  counts = revoked_so.counts_r script old past message running sound_m host_is way r body present no_moves sound
      revoked its sound_new

  sorts : SortedSo m r.ids its.sorted.kept its.sorted.left its.sorted.back its.sorted.given
  sorts = revoked_so.sorts script old past message running sound_m host_is way r body present no_moves sound revoked
      its sound_new

  their : (t : Token) → In t its.sorted.left → In t (held_of old)
  their t i = (sorts.idle t i).0

  -- # What is said
  pub data Tells (y : Message) : Type 0 where
    Keeps : (w : Named) → y.body ≡ Kept w → Tells y
    Returns : (w : Named) → y.body ≡ Returned w → Tells y
    Again : (g : Give) → y.body ≡ GiveBack g → In g.fid.fileset its.sorted.given → IsFirst old.gives g → Tells y

  abbrev First : Message → Type 0
  First y = (g : Give) × (y.body ≡ GiveBack g) × In g.fid.fileset h.due × IsFirst h.l.gives g

  pub told_so : (y : Message) → In y h.sent → Tells y
  told_so y i = elim (h.said.said y i) [
    | inr q ↦ Returns q.0 (ap (λ (z : Message). z.body) q.1)
    | inl f ↦ elim (first_is m its.sorted.kept its.sorted.given y f) [
      | inl q ↦ Keeps (record { fid = q.0; ids = ids_of (of_file q.0 its.sorted.kept) })
          (ap (λ (z : Message). z.body) q.2)
      | inr q ↦
          let o = outstanding_is old.gives sound q.0 q.2.0 q.2.1 in
          Again o.0 (ap (λ (z : Message). z.body) q.2.2 ∙ o.1)
          (subst (λ (fs : FilesetId). In fs its.sorted.given) (sym o.2) q.1) o.3
    ]
  ]

  -- # The step: all answers, and what is new
  module _ (sites : List Site) (request : Option Request) (fetched : List Fetched) (changed : List Changed)
      (all : List Message) (all_from : (y : Message) → In y all → In y h.sent ⊎ IsNewIn past y)
      (all_keep : (y : Message) → In y h.sent → In y all) (all_once : EachOnce all) where
    abbrev pub x1 : Tables
    x1 = record x { sites = sites; request = request; fetched = fetched; changed = changed }

    abbrev d1 : Draft
    d1 = start h.made h.gone all h.due

    abbrev sent : List Message
    sent = (fold (sending_give x1) d1 h.due).sent

    abbrev pub s : Step
    s = revokes old.host message.server message.epoch 0 r h.made (map (leaves_by Revoked) h.gone) sent

    pub learnt : Stands script m (half s ∷ past)
    learnt = revoke_stands script old past message.server message.epoch 0 r (floors_by old r) stands counts
        (raises old r)

    comes_is : (v : ServerId) (e n : ℕ) (b : Body) → ComesIn s v e n b → Revoke r ≡ b
    comes_is v e n b c =
        let p = c.1 in
        let q : revoking old.host message.server message.epoch 0 r ≡ c.0 = cc in ap (λ (y : Message). y.body) q ∙ c.5

    about : About past s r.fid.fileset (Revoke r)
    about =
        let at = ap (λ (z : Stay). z.server) counts.place_is in (
          revoking old.host message.server message.epoch 0 r,
          refl,
          sym at,
          sym counts.present ∙ ((stands.sites message.server).epoch ∙ ap (epoch_at past) (sym at)),
          sym (ap (λ (z : Stay). z.moves) counts.place_is),
          refl,
        )

    -- # The open call has nothing to give back
    open_call : (k : ℕ) (call : Call) → HasCall past s k call → old.call ≡ Some (record { k = k; call = call })
    open_call k call (inl (inl e)) = absurd (let p = e in cc)
    open_call k call (inl (inr b)) = elim b.1 [ ]
    open_call k call (inr g) = stands.call.asked (record { k = k; call = call }) g.0

    none_for_call : GivesForCall m past s
    none_for_call = record {
      syncs = λ k place fid t turn f i at dirty. absurd (running.rests.rest.synced
          (record { k = k; call = Sync place }) place fid t (open_call k (Sync place) turn) refl
          (record { id = f.id; nature = f.nature; seen = f.seen; covered = f.covered; found = f.found }) i at dirty);
      frees = λ k u turn f. absurd (running.rests.rest.freed (record { k = k; call = end_of u }) u
          (open_call k (end_of u) turn) refl f);
    }

    says_so : (y : Message) → In y sent → (Tells y ⊎ First y) ⊎ (In y all × IsNewIn past y)
    says_so y i = elim (fold_says (sending_give x1) (λ fs z. (o : Message) × (outstanding h.l.gives fs ≡ Some o)
        × (z ≡ message_to x1 (home_at fs) o.body)) (λ d fs z j. giving_says x1 d fs z j) d1 h.due y i) [
          | inl j ↦ elim (all_from y j) [ inl k ↦ inl (inl (told_so y k)) | inr new ↦ inr (j, new) ]
          | inr q ↦
              let o = outstanding_is h.l.gives sound_l q.0 q.2.0 q.2.1 in
              inl (inr (
                o.0,
                ap (λ (w : Message). w.body) q.2.2 ∙ o.1,
                subst (λ (fs : FilesetId). In fs h.due) (sym o.2) q.1,
                o.3,
              ))
        ]

    no_bye : (y : Message) → In y sent → y.body ≡ Bye → ⊥
    no_bye y i e = by_saying (says_so y i)
      where
        by_saying : (Tells y ⊎ First y) ⊎ (In y all × IsNewIn past y) → ⊥
        by_saying (inl (inl (Keeps w q))) = let p = sym e ∙ q in cc
        by_saying (inl (inl (Returns w q))) = let p = sym e ∙ q in cc
        by_saying (inl (inl (Again g q j f))) = let p = sym e ∙ q in cc
        by_saying (inl (inr q)) = let p = sym e ∙ q.1 in cc
        by_saying (inr new) = let t = ap sort_of e in elim (new_sort past y new.1) [
          | inl p ↦ omega (arith, p, t)
          | inr p ↦ omega (arith, p, t)
        ]

    -- an older give-back that was outstanding is so still
    first_still : (g : Give) → IsFirst old.gives g → IsFirst h.l.gives g
    first_still g f = record {
      message = f.message;
      within = h.left.gives_old f.message f.within;
      body = f.body;
      least = λ other k i b fs less. elim (h.left.gives_from other i) [
        | inl was ↦ f.least other k was b fs less
        | inr q ↦
            let p : GiveBack k ≡ GiveBack q.0 = sym b ∙ q.1 in
            let is : q.0 ≡ k = cc in
            let up = h.left.above k (subst (λ (z : Give). In z h.made) is q.2) in
            let z = stands.gives.made f.message f.within in
            let q_g : GiveBack z.0 ≡ GiveBack g = sym z.1 ∙ f.body in
            let same : z.0 ≡ g = cc in
            let low = subst (λ (n : FilesetId). g.number ≤ last_of old.gives.counters n) (sym fs)
            (stands.gives.last g (subst (Made past) same z.2)) in omega (arith, up, low, less)
      ];
    }

    module _ (runs : RunsOn script old x1 past s) where
      pub keeps_held : (t : Token) → In t (tokens_of h.l.cache.held) → HeldBy (s ∷ past) t
      keeps_held t i = runs.runs.rests.stands.cache.held t i

      pub cached : (t : Token) → HeldBy (s ∷ past) t → In t (tokens_of h.l.cache.held)
      cached t o = runs.runs.rests.stands.cache.cached t o

      owns : (t : Token) → In t (tokens_of h.l.cache.held) → Owns (s ∷ past) t
      owns t i = runs.runs.rests.stands.cache.owned t i

      owned : (t : Token) → Owns (s ∷ past) t → In t (tokens_of h.l.cache.held)
      owned t o = runs.runs.rests.stands.cache.owns t o

      abbrev stance : Stance script.roster m.host past s
      stance = standing.stance script m past s learnt (tokens_of h.l.cache.held) keeps_held cached

      gives_out : (g : Give) → IsFirst h.l.gives g → IsOutstanding (s ∷ past) g
      gives_out g f = first_out h.l.gives (s ∷ past) runs.runs.rests.stands.gives g f

      given_out : (v : ServerId) (e n : ℕ) (g : Give) → Sends s v e n (GiveBack g) → IsOutstanding (s ∷ past) g
      given_out v e n g q = by_saying (says_so q.0 q.1)
        where
          by_saying : (Tells q.0 ⊎ First q.0) ⊎ (In q.0 all × IsNewIn past q.0) → IsOutstanding (s ∷ past) g
          by_saying (inl (inl (Keeps w p))) = let t = sym q.5 ∙ p in absurd (cc)
          by_saying (inl (inl (Returns w p))) = let t = sym q.5 ∙ p in absurd (cc)
          by_saying (inr new) = let t = ap sort_of q.5 in absurd (elim (new_sort past q.0 new.1) [
            | inl p ↦ omega (arith, p, t)
            | inr p ↦ omega (arith, p, t)
          ])
          by_saying (inl (inl (Again k p j f))) =
              let t : GiveBack k ≡ GiveBack g = sym p ∙ q.5 in
              let same : k ≡ g = cc in gives_out g (first_still g (subst (IsFirst old.gives) same f))
          by_saying (inl (inr (k, p, j, f))) =
              let t : GiveBack k ≡ GiveBack g = sym p ∙ q.5 in
              let same : k ≡ g = cc in gives_out g (subst (IsFirst h.l.gives) same f)

      -- a give-back that is sent again is asked for
      asks_back : (g : Give) → In g.fid.fileset its.sorted.given → IsFirst old.gives g → AsksBack past s g
      asks_back g i f =
          let e = its.sorted_is ∙ ap (λ (z : Tables). sorted_by z r.ids) (raised_is old r) in
          let n = given_named m r.ids g.fid.fileset (subst (λ z. In g.fid.fileset z.given) e i) in
          let k = n.2 in
          let both = and_parts (is_leaving n.0 k.0) (is_outstanding old.gives k.0.fileset k.0.number) k.2 in
          let y = (stands.leaving.from k.0 k.1).1 in
          let o = first_outstanding old.gives sound g f in
          let number : g.number ≡ k.0.number =
          sym (number_is o.0 g o.2)
          ∙ numbered (outstanding old.gives g.fid.fileset) o.0 k.0.number
          (subst (λ (fs : FilesetId). is_outstanding old.gives fs k.0.number ≡ true) k.3 both.1) o.1 in
          let z = first_out old.gives past stands.gives g f in
          let same : y.0 ≡ g = stands.gives.one y.0 g y.1 z.made
          (λ j. record { fileset = (sym y.5 ∙ k.3) j; number = (sym y.6 ∙ sym number) j }) in (
            r,
            n.0,
            about,
            n.1,
            subst (λ (t : TokenId). In t g.ids) (same_id_is k.0.token.id n.0 both.0)
                (subst (λ (w : Give). In k.0.token.id w.ids) same y.3),
          )
        where
          numbered : (o : Option Message) (z : Message) (n : ℕ)
              → option_map_or (λ message. number_of message == n) o false ≡ true → o ≡ Some z → number_of z ≡ n
          numbered None z n e q = absurd (cc)
          numbered (Some w) z n e q =
              let p : w ≡ z = cc in ap number_of (sym p) ∙ eqb-true (number_of w) n e

      again_only : (v : ServerId) (e n : ℕ) (b : Body) → Sends s v e n b → IsUnanswered past v n b → SendsAgain past
          s v b
      again_only v e n b q u = by_saying (says_so q.0 q.1)
        where
          by_saying : (Tells q.0 ⊎ First q.0) ⊎ (In q.0 all × IsNewIn past q.0) → SendsAgain past s v b
          by_saying (inr new) = absurd (new_answered past v n b q.0 q.2 q.5 new.1 u)
          by_saying (inl (inl (Keeps w p))) = absurd (subst (IsUnanswered past v n) (sym q.5 ∙ p) u)
          by_saying (inl (inl (Returns w p))) = absurd (subst (IsUnanswered past v n) (sym q.5 ∙ p) u)
          by_saying (inl (inl (Again g p j f))) = subst (SendsAgain past s v) (sym p ∙ q.5) (inr (asks_back g j f))
          by_saying (inl (inr (g, p, j, f))) =
              let w = subst (IsUnanswered past v n) (sym q.5 ∙ p) u in
              let o = first_outstanding old.gives sound g (due_so.first_give script old past message running sound_m
              host_is way r body present no_moves sound revoked its sound_new g w.0) in
              let none = h.once.new g.fid.fileset j in absurd (let t = sym none ∙ o.1 in cc)

      dropped_held : (l : Leave) → In l s.dropped → HeldBy past l.token
      dropped_held l i =
          let k = in_map (leaves_by Revoked) h.gone l i in
          subst (λ (z : Leave). HeldBy past z.token) (sym k.2)
          (stands.cache.held k.0 (their k.0 (h.left.from k.0 k.1).0))

      tokens_left : (tokens : List Token)
          → map (λ (l : Leave). l.token) (map (leaves_by Revoked) tokens) ≡ tokens
      tokens_left [] = refl
      tokens_left (t ∷ tokens) = ap (λ (l : List Token). t ∷ l) (tokens_left tokens)

      each_said : EachOnce sent
      each_said = given_apart x1 sound_l h.due h.once.filesets d1 all_once
          (λ y i e j. elim (all_from y i) [
            | inl k ↦ by_saying y e j (told_so y k)
            | inr new ↦ elim (new_sort past y new) [
              | inl p ↦ (let t = e in omega (arith, p, t))
              | inr p ↦ (let t = e in omega (arith, p, t))
            ]
          ])
        where
          by_saying : (y : Message) → sort_of y.body ≡ 1 → In (fileset_of x1 sound_l y) h.due → Tells y → ⊥
          by_saying y e j (Keeps w p) = let t = sym e ∙ ap sort_of p in omega (arith, t)
          by_saying y e j (Returns w p) = let t = sym e ∙ ap sort_of p in omega (arith, t)
          by_saying y e j (Again g p k f) =
              let o = first_outstanding old.gives sound g f in
              let at : fileset_of x1 sound_l y ≡ g.fid.fileset =
              ap (λ (b : Body). option_map_or (λ (give : Give). give.fid.fileset) (given_in b) (record { 0 = 0 })) p in
              let none = h.once.new g.fid.fileset (subst (λ (fs : FilesetId). In fs h.due) at j) in
              let t = sym none ∙ o.1 in cc

      pub all_due : ((y : Message) → In y all → y.body ≡ Hello → (IsWelcome (s ∷ past) y.server → ⊥)
          × (HasGreeted past y.server → ⊥)
          × ((call : Asked) × IsOpen (s ∷ past) call
          × GoesTo script.roster m.host past s stance call.call y.server)) → HostDue script old.host past s
      all_due greets = record {
        stance = stance;
        calls = record {
          syncs = unanswered.syncs script m past s learnt (tokens_of h.l.cache.held) keeps_held cached none_for_call;
          frees = none_for_call.frees;
          greets = λ v e n q. greets_so v q.0 q.2 q.5 (says_so q.0 q.1);
        };
        revokes = λ k i a j.
            let p : Revoke r ≡ Revoke k = comes_is _ _ _ (Revoke k) a in
            let same : r ≡ k = cc in
            subst (λ (z : RevokeOf). RevokeDue past s z i) same
            (due_so.revoke_due script old past message running sound_m host_is way r body present no_moves sound revoked
            its sound_new s learnt refl
            (λ y n. fold_keeps (sending_give x1) (λ d fs w j. giving_keeps x1 d fs w j) d1 h.due y (all_keep y n))
            owns owned i
            (subst (λ (z : RevokeOf). In i z.ids) (sym same) j));
        repeats = record {
          lapse_all = λ v n b c u. absurd (let p = c in cc);
          lapse_claims = λ v c w. absurd (let p = c in cc);
          lapse_only = λ v e n b c q. absurd (let p = c in cc);
          lapse_quiet = λ c. absurd (let p = c in cc);
          restarted_gives = λ v n g l. absurd (let p = comes_is _ _ _ Restarted l.2.2 in cc);
          restarted_claims = λ v l. absurd (let p = comes_is _ _ _ Restarted l.2.2 in cc);
          reclaimed_all = λ v n answer b c. absurd (let p = comes_is _ _ _ (Reclaimed answer) c in cc);
          again_only = λ v e n b q u. inr (again_only v e n b q u);
          bye_again = λ v q had has. no_bye q.2.0 q.2.1 q.2.5;
          gives_only = given_out;
        };
        leaves = record {
          held = λ l i. inr (dropped_held l i);
          evicts = λ e. absurd (let p = e in cc);
          ends = λ e. absurd (let p = e in cc);
          ends_all = λ l e. absurd (let p = e in cc);
        };
        once = each_said;
        once_taken = tt;
        once_dropped = subst EachOnce (sym (tokens_left h.gone)) h.once.tokens;
        once_made = h.once.gives;
      }
        where
          greets_so : (v : ServerId) (y : Message) → y.server ≡ v → y.body ≡ Hello
              → (Tells y ⊎ First y) ⊎ (In y all × IsNewIn past y)
              → (IsWelcome (s ∷ past) v → ⊥)
              × (((s.cause ≡ Lapse) × HasGreeted past v)
              ⊎ ((HasGreeted past v → ⊥)
              × ((call : Asked) × IsOpen (s ∷ past) call × GoesTo script.roster m.host past s stance call.call v)))
          greets_so v y at e (inl (inl (Keeps w p))) = absurd (let t = sym e ∙ p in cc)
          greets_so v y at e (inl (inl (Returns w p))) = absurd (let t = sym e ∙ p in cc)
          greets_so v y at e (inl (inl (Again g p j f))) = absurd (let t = sym e ∙ p in cc)
          greets_so v y at e (inl (inr k)) = absurd (let t = sym e ∙ k.1 in cc)
          greets_so v y at e (inr new) =
              let g = subst (λ (w : ServerId). (IsWelcome (s ∷ past) w → ⊥) × (HasGreeted past w → ⊥)
              × ((call : Asked) × IsOpen (s ∷ past) call × GoesTo script.roster m.host past s stance call.call w)) at
              (greets y new.0 e) in (g.0, inr (g.1, g.2))

  -- # Nothing else is said
  abbrev d_q : Draft
  d_q = start h.made h.gone h.sent h.due

  abbrev pub s_q : Step
  s_q = revokes old.host message.server message.epoch 0 r h.made (map (leaves_by Revoked) h.gone)
      (fold (sending_give x) d_q h.due).sent

  pub quiet_due : RunsOn script old x past s_q → HostDue script old.host past s_q
  quiet_due runs = all_due old.sites old.request old.fetched old.changed h.sent (λ y i. inl i) (λ y i. i)
      h.once.messages runs (λ y i e. absurd (none_told y e (told_so y i)))
    where
      none_told : (y : Message) → y.body ≡ Hello → Tells y → ⊥
      none_told y e (Keeps w p) = let t = sym e ∙ p in cc
      none_told y e (Returns w p) = let t = sym e ∙ p in cc
      none_told y e (Again g p j f) = let t = sym e ∙ p in cc
