-- What is due of the steps of the end in which all that is held leaves, and in which Bye is said.
use Rattle.base_types.specs.declared.ids.FilesetId.{FilesetId}
use Rattle.base_types.specs.declared.ids.Node.TheVariants.{Host}
use Rattle.host_cache.specs.Holding.{IsOnce}
use Rattle.host_cache.specs.declared.held.Held.{Held}
use Rattle.host_gives.specs.Giving.{IsSound as IsSoundGives, outstanding}
use Rattle.host_leaves.specs.Giving.{leaves_by}
use Rattle.host_leaves.specs.Sending.{message_to, sending_due, sending_give}
use Rattle.host_manager.proofs.AllEnds.{all_right}
use Rattle.host_manager.proofs.Evicting.{each_once}
use Rattle.host_manager.proofs.Folding.{OnlySends, fold_only, fold_says, giving_only, giving_says, where_only}
use Rattle.host_manager.proofs.LeftSo.{OnceSo}
use Rattle.host_manager.proofs.PartSo.{PartSo}
use Rattle.host_manager.proofs.WholeFile.{SaidSo, all_files, some_there, start}
use Rattle.host_manager.proofs.News.{IsNews, news_only, none_is_open, silent_calls}
use Rattle.host_manager.proofs.OnceSaid.{servers_once}
use Rattle.host_manager.proofs.Parting.{bye_said, byes_run}
use Rattle.host_manager.proofs.Repeated.{given_once, sites_once, sort_of}
use Rattle.host_manager.specs.Closing.{AllLeave, is_to_part, parting, with_byes}
use Rattle.host_manager.specs.Due.{EndDue}
use Rattle.host_manager.specs.Spoken.{IsFree}
use Rattle.host_tables.proofs.Declared.{site_is}
use Rattle.host_tables.proofs.Lists.{in_map, map_in, none_in, not_false}
use Rattle.host_tables.proofs.Outstanding.{outstanding_is}
use Rattle.host_tables.specs.Drafts.{no_draft, step_of}
use Rattle.host_tables.specs.LeavingSteps.{Left, with_left}
use Rattle.host_manager.specs.Running.{IsRunning, RunsOn}
use Rattle.host_tables.specs.Stands.{Stands}
use Rattle.host_tables.specs.Tables.{held_of}
use Rattle.host_tables.specs.Updates.{home_at}
use Rattle.host_tables.specs.declared.draft.Draft.{Draft}
use Rattle.host_tables.specs.declared.sites.Site.{Site}
use Rattle.host_tables.specs.declared.tables.Tables.{Tables}
use Rattle.message_types.specs.declared.giving.Give.{Give}
use Rattle.message_types.specs.declared.message.Body.TheVariants.{Bye, Hello}
use Rattle.message_types.specs.declared.message.Message.{Message}
use Rattle.run_rules.specs.HostDue.{HostDue}
use Rattle.run_rules.specs.Past.{EachOnce, In}
use Rattle.run_rules.specs.Tokens.{Held as HeldBy, NoneUsed}
use Rattle.run_rules.specs.declared.applied.Leave.{Leave}
use Rattle.run_rules.specs.declared.applied.Why.{Why}
use Rattle.run_rules.specs.declared.applied.Why.TheVariants.{Ended}
use Rattle.run_rules.specs.declared.step.Cause.TheVariants.{End}
use Rattle.run_rules.specs.declared.step.Step.{Step}
use Rattle.script_lines.specs.declared.script.Script.{Script}
use Rattle.std.proofs.Common.{List, None, Some, [], ap, arith, fold, inl, inr, map, not, refl, subst}
use Rattle.std.proofs.Common.{sym}
use Rattle.std.proofs.Common.{◌∙◌, ◌∷◌, ◌≡◌, ◌⊎◌}
use Rattle.std.proofs.lemmas.Bool.{and_parts}
use Rattle.std.specs.Prelude.{◌≢◌}
use Rattle.token_types.specs.declared.token.Token.{Token}

-- the tokens of drops
pub tokens_left : (why : Why) (tokens : List Token) → map (λ (l : Leave). l.token) (map (leaves_by why) tokens) ≡ tokens
tokens_left why [] = refl
tokens_left why (t ∷ tokens) = ap (λ (l : List Token). t ∷ l) (tokens_left why tokens)

-- # All leaves
module _ (script : Script) (m : Tables) (past : List Step) (running : IsRunning script m past) (free : m.call ≡ None)
    (no_labels : m.uses.labels ≡ []) (l : Left) (gone : List Token) (made : List Give) (told : List Message)
    (dues : List FilesetId) (so : PartSo m (held_of m) l (map (λ (t : Token). t.fid) (held_of m)) gone made)
    (says : SaidSo m (map (λ (t : Token). t.fid) (held_of m)) gone made told dues) (each : OnceSo m gone made told dues)
    (sound : IsSoundGives l.gives) where
  abbrev x : Tables
  x = with_left m l

  abbrev d1 : Draft
  d1 = start made gone told dues

  abbrev sent : List Message
  sent = (fold (sending_give x) d1 dues).sent

  abbrev s : Step
  s = step_of (Host m.host) End (record d1 { sent = sent })

  pub only_sends : OnlySends d1 (fold (sending_give x) d1 dues)
  only_sends = fold_only (sending_give x) (λ d fs. giving_only x d fs) d1 dues

  said : (y : Message) → In y sent → In y told ⊎ ((fs : FilesetId) × In fs dues × ((z : Message)
      × (outstanding l.gives fs ≡ Some z) × (y ≡ message_to x (home_at fs) z.body)))
  said y i = fold_says (sending_give x) (λ fs z. (o : Message) × (outstanding l.gives fs ≡ Some o)
      × (z ≡ message_to x (home_at fs) o.body)) (λ d fs z j. giving_says x d fs z j) d1 dues y i

  news : (y : Message) → In y sent → IsNews m x y.server y.body
  news y i = elim (said y i) [
    | inl j ↦ (let r = says.said y j in subst (λ (z : Message). IsNews m x z.server z.body) (sym r.1) tt)
    | inr r ↦
        let k = outstanding_is l.gives sound r.0 r.2.0 r.2.1 in
        subst (λ (z : Message). IsNews m x z.server z.body) (sym r.2.2)
        (subst (IsNews m x (home_at r.0)) (sym k.1)
        (ap (outstanding m.gives) k.2 ∙ each.new r.0 r.1, (k.3.message, k.3.within, k.3.body)))
  ]

  no_hello : (y : Message) → In y sent → y.body ≡ Hello → ⊥
  no_hello y i h = elim (said y i) [
    | inl j ↦ (let r = says.said y j in let p = sym (ap (λ (z : Message). z.body) r.1) ∙ h in absurd (cc))
    | inr r ↦
        let k = outstanding_is l.gives sound r.0 r.2.0 r.2.1 in
        let p = sym (ap (λ (z : Message). z.body) r.2.2 ∙ k.1) ∙ h in absurd (cc)
  ]

  its_gone : (t : Token) → In t (held_of m) → In t gone
  its_gone t i = so.all t i (map_in (λ (u : Token). u.fid) (held_of m) t i)

  none_used : NoneUsed past
  none_used u used = none_in m.uses.labels no_labels _ (running.rests.stands.uses.labels u used)

  pub all_gone : RunsOn script m x past s → (first : Token) → In first (held_of m) → HostDue script m.host past s
  all_gone runs first has_first = record {
    stance = runs.may.stance;
    calls = silent_calls script m past s runs.may.stance (none_is_open script m past running.rests.stands free) refl
        refl
        no_hello;
    revokes = λ r i a. absurd (let p = a.1 in cc);
    repeats = news_only script m x past s running runs (λ y e. let p = e in cc) (λ e. let p = e in cc) free news;
    leaves = record {
      held = λ d i.
          let r = in_map (leaves_by Ended) gone d i in
          inr (subst (λ (z : Leave). HeldBy past z.token) (sym r.2)
          (running.rests.stands.cache.held r.0 (so.from r.0 r.1).0));
      evicts = λ e. absurd (let p = e in cc);
      ends = λ e. inr (inl (leaves_by Ended first, map_in (leaves_by Ended) gone first (its_gone first has_first)));
      ends_all = λ d e i w. (
        none_used,
        λ t held. (
          leaves_by Ended t,
          map_in (leaves_by Ended) gone t (its_gone t (running.rests.stands.cache.cached t held)),
          refl,
        ),
      );
    };
    once = given_once x sound dues each.filesets d1 each.messages
        (λ y i e. let r = says.said y i in let p = sym (ap (λ (z : Message). sort_of z.body) r.1) ∙ e in
        omega (arith, p));
    once_taken = tt;
    once_dropped = subst EachOnce (sym (tokens_left Ended gone)) each.tokens;
    once_made = each.gives;
  }

pub all_due : (m new : Tables) (after : Draft) → IsFree m → IsOnce m.cache.held → IsSoundGives m.gives
    → IsSoundGives new.gives → m.uses.labels ≡ [] → m.cache.held ≢ [] → AllLeave m no_draft new after
    → EndDue m (step_of (Host m.host) End after)
all_due m new after free once sound sound_new no_labels some its script past running lines =
    let stands : Stands script m past = running.rests.stands in
    let h = all_files m stands.cache.once stands.cache.tells stands.contents.zero (each_once m.cache.held once)
    (held_of m) no_draft new its.left refl its.leaves in
    let one = some_there m.cache.held some in
    let has_first = map_in (λ (x : Held). x.token) m.cache.held one.0 one.1 in
    let sound_l = subst (λ (z : Tables). IsSoundGives z.gives) h.tables sound_new in
    let only = only_sends script m past running free.0 no_labels h.l h.gone h.made h.sent h.due h.left h.said h.once
    sound_l in
    let draft = its.sends ∙ (λ i. sending_due (h.tables i) (h.draft i)) ∙ only in
    let right = (all_right m new after free once sound sound_new no_labels some its script past running lines).0 in
    let runs = subst (λ (q : Tables × Draft). RunsOn script m q.0 past (step_of (Host m.host) End q.1))
    (λ i. (h.tables i, draft i)) right in
    subst (λ (d : Draft). HostDue script m.host past (step_of (Host m.host) End d)) (sym draft)
    (all_gone script m past running free.0 no_labels h.l h.gone h.made h.sent h.due h.left h.said h.once sound_l runs
    one.0.token has_first)

-- # Bye is said
some_first : {A : Type 0} (xs : List A) → xs ≢ [] → (x : A) × In x xs
some_first [] some = absurd (some refl)
some_first (x ∷ xs) some = (x, inl refl)

pub byes_due : (m : Tables) → IsFree m → m.cache.held ≡ [] → m.gives.gives ≡ []
    → (fold (parting m) no_draft m.sites).sent ≢ []
    → EndDue m (step_of (Host m.host) End (fold (parting m) no_draft m.sites))
byes_due m free none_held none_given some script past running lines =
    let sent : List Message = (fold (parting m) no_draft m.sites).sent in
    let draft : fold (parting m) no_draft m.sites ≡ record no_draft { sent = sent } =
    fold_only (parting m) (λ d x. where_only m (λ z. Bye) is_to_part d x) no_draft m.sites in
    let right = (byes_run m free none_held none_given script past running lines).0 in
    let runs : RunsOn script m (with_byes m) past (step_of (Host m.host) End (record no_draft { sent = sent })) =
    subst (λ (d : Draft). RunsOn script m (with_byes m) past (step_of (Host m.host) End d)) draft right in
    subst (λ (d : Draft). HostDue script m.host past (step_of (Host m.host) End d)) (sym draft)
    (byes_so script m past running free.0 (some_first sent some) runs)
  where
    byes_so : (script : Script) (m : Tables) (past : List Step) (running : IsRunning script m past) → m.call ≡ None
        → (y : Message) × In y (fold (parting m) no_draft m.sites).sent
        → RunsOn script m (with_byes m) past
        (step_of (Host m.host) End (record no_draft { sent = (fold (parting m) no_draft m.sites).sent }))
        → HostDue script m.host past
        (step_of (Host m.host) End (record no_draft { sent = (fold (parting m) no_draft m.sites).sent }))
    byes_so script m past running free one runs =
        let s : Step = step_of (Host m.host) End (record no_draft
        { sent = (fold (parting m) no_draft m.sites).sent }) in
        let first = bye_said script m past running one.0 one.1 in record {
          stance = runs.may.stance;
          calls = silent_calls script m past s runs.may.stance (none_is_open script m past running.rests.stands free)
              refl refl (λ y i h. let r = bye_said script m past running y i in
              let p = sym (ap (λ (z : Message). z.body) r.3) ∙ h in absurd (cc));
          revokes = λ r i a. absurd (let p = a.1 in cc);
          repeats = news_only script m (with_byes m) past s running runs (λ y e. let p = e in cc)
              (λ e. let p = e in cc) free (λ y i.
              let r = bye_said script m past running y i in
              subst (λ (z : Message). IsNews m (with_byes m) z.server z.body) (sym r.3)
              (ap (λ (z : Site). z.said_bye) (site_is script.roster m running.tidy r.0 r.1)
              ∙ not_false r.0.said_bye (and_parts r.0.greeted (not r.0.said_bye) r.2).1));
          leaves = record {
            held = λ d i. elim i [ ];
            evicts = λ e. absurd (let p = e in cc);
            ends = λ e. inr (inr (
              one.0.server,
              (
                one.0.epoch,
                one.0.moves,
                (
                  one.0,
                  one.1,
                  refl,
                  refl,
                  refl,
                  ap (λ (z : Message). z.body) first.3,
                ),
              ),
            ));
            ends_all = λ d e i. elim i [ ];
          };
          once = sites_once m 4 (λ z. Bye) is_to_part (λ z. refl) m.sites
              (servers_once script.roster m.sites running.tidy.servers) no_draft tt (λ y i. elim i [ ]);
          once_taken = tt;
          once_dropped = tt;
          once_made = tt;
        }
