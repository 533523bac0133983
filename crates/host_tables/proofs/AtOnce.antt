-- A call that is answered from the cache in the step that begins it.
use Rattle.base_types.specs.declared.ids.Node.TheVariants.{Host}
use Rattle.host_cache.specs.Holding.{is_idle}
use Rattle.host_cache.specs.declared.held.Held.{Held}
use Rattle.host_tables.proofs.Lists.{by_test, each_fits, false_not, filter_in, in_map, map_in}
use Rattle.host_tables.proofs.Replying.{replies_may}
use Rattle.host_tables.specs.Answering.{AnswersCall, BegunBy, wrote_by}
use Rattle.host_tables.specs.AtOnce.{AnsweredAtOnce, IsFree, IsNextCall, answers_line, first_answer}
use Rattle.host_tables.specs.Causes.{CauseMay}
use Rattle.host_tables.specs.Half.{half}
use Rattle.host_tables.specs.Learning.{TeachesNothing}
use Rattle.host_tables.specs.Sending.{LinesMay}
use Rattle.host_tables.specs.Stands.{CanReply, IsAtRest, Stands, verdict_from}
use Rattle.host_tables.specs.Tables.{held_of}
use Rattle.host_tables.specs.declared.calls.Request.{Request}
use Rattle.host_tables.specs.declared.calls.Request.TheVariants.{Change as AChange, Fetch as AFetch}
use Rattle.host_tables.specs.declared.tables.Tables.{Tables}
use Rattle.message_types.specs.declared.giving.Give.{Give}
use Rattle.run_rules.specs.HostMay.{DoesLine, HostMay}
use Rattle.run_rules.specs.HostTokens.{IsUnused, MayEvict}
use Rattle.run_rules.specs.Past.{EachOnce, In}
use Rattle.run_rules.specs.Steps.{limit_of, lines_of, servers_of}
use Rattle.run_rules.specs.Tokens.{BeginsCall, HasCall, IsKnown, IsOutstanding, Made, NoneOpen, TokenInUse}
use Rattle.run_rules.specs.Tokens.{calls_begun, number_of}
use Rattle.run_rules.specs.declared.applied.Answer.{Answer as AnswerOf}
use Rattle.run_rules.specs.declared.step.Cause.TheVariants.{Line as LineOf}
use Rattle.run_rules.specs.declared.step.Labelled.{Labelled}
use Rattle.run_rules.specs.declared.step.Step.{Step}
use Rattle.script_lines.specs.declared.script.Script.{Script}
use Rattle.std.proofs.Common.{List, Some, ap, arith, false, filter, inl, inr, length, map, refl, subst, suc, sym}
use Rattle.std.proofs.Common.{true, ℕ, ◌+◌, ◌∙◌, ◌∷◌, ◌≡◌, ◌≤◌}
use Rattle.std.proofs.lemmas.List.{length-map}
use Rattle.token_types.specs.declared.token.Token.{Token}
use Rattle.tree_calls.specs.declared.call.Call.{Call}
use Rattle.host_tables.proofs.Learning as learning_of

-- of the tokens that are held those that aren't in use are no more than the idle ones
idle_fits : (held : List Held) (tokens : List Token) → EachOnce tokens → ((t : Token) → In t tokens → (h : Held)
    × In h held × (h.token ≡ t) × (h.in_use ≡ false))
    → length tokens ≤ length (filter is_idle held)
idle_fits held tokens once all =
    let e = each_fits tokens (map (λ (h : Held). h.token) (filter is_idle held)) once (λ t i. let r = all t i in
    subst (λ (x : Token). In x (map (λ (h : Held). h.token) (filter is_idle held))) r.2 (map_in (λ (h : Held). h.token)
    (filter is_idle held) r.0 (filter_in is_idle held r.0 r.1 (false_not r.0.in_use r.3)))) in
    let f = length-map (filter is_idle held) (λ (h : Held). h.token) in omega (arith, e, f)

module _ (script : Script) (m : Tables) (past : List Step) (stands : Stands script m past) where
  -- what is idle is marked so
  pub idle_held : (t : Token) → IsUnused past t → (h : Held) × In h m.cache.held × (h.token ≡ t) × (h.in_use ≡ false)
  idle_held t (held, unused) =
      let r = in_map (λ (h : Held). h.token) m.cache.held t (stands.cache.cached t held) in (
        r.0,
        r.1,
        sym r.2,
        elim (by_test r.0.in_use) [
          | inl e ↦
              absurd (unused (subst (λ (x : Token). TokenInUse past x.id) (sym r.2) (stands.cache.marked r.0 r.1 e)))
          | inr e ↦ e
        ],
      )

  pub not_many : length (filter is_idle m.cache.held) ≤ m.limit → MayEvict past (limit_of script.roster m.host) → ⊥
  not_many few (_, (tokens, once, many, idle)) =
      let e = idle_fits m.cache.held tokens once (λ t i. idle_held t (idle t i)) in let l = stands.limit in
      omega (arith, e, many, l, few)

  module _ (rest : IsAtRest m past) (free : IsFree m) (line : ℕ) (call : Call) (can : CanReply m call)
      (begun : List Labelled)
      (next : IsNextCall script m.host past line call) (takes : BegunBy (held_of m) call (verdict_from m call) begun)
    where
      abbrev s : Step
      s = answers_line m.host line (first_answer m call can.reply) (wrote_by (verdict_from m call)) begun

      quiet : TeachesNothing past s
      quiet = learning_of.teaches_nothing past s tt

      learnt : Stands script m (half s ∷ past)
      learnt = learning_of.unmoved m.host (LineOf line) past (learning_of.teaches_nothing past (half s) tt)
          script m refl
          stands

      none_open : NoneOpen past
      none_open c o = let p = sym free.none_open ∙ stands.call.asked c o in absurd (cc)

      no_request : (r : Request) → m.request ≡ Some r → ⊥
      no_request r e = let p = sym (rest.alone free.none_open) ∙ e in absurd (cc)

      only : (n : ℕ) (other : Call) → HasCall past s n other → (n ≡ m.begun + 1) × (other ≡ call)
      only n other (inl (inl e)) = absurd (cc)
      only n other (inl (inr (a, inl i, _, at, is))) = (
        sym at ∙ ap (λ (a : AnswerOf). a.k) i,
        sym is
            ∙ ap (λ (a : AnswerOf). a.call) i,
      )
      only n other (inl (inr (a, inr i, _, at, is))) = elim i [ ]
      only n other (inr g) = absurd (none_open _ g.0)

      so : AnswersCall m past s (m.begun + 1) call true
      so = record {
        turn = inl (inr (first_answer m call can.reply, inl refl, refl, refl, refl));
        only = only;
        can = can;
        answers = refl;
        asked = refl;
        made = refl;
        dropped = refl;
        begins = λ e. refl;
        goes_on = λ e. absurd (cc);
        wrote = refl;
        begun = takes;
        none_asked = λ fs n a. elim a.0 [
          | inl f ↦ elim f.1.3.1 [ ]
          | inr x ↦ (let r = stands.request.asking fs n x in
              no_request (AFetch r.0) r.1)
        ];
        none_changing = λ v fs n a. elim a.0 [
          | inl c ↦ elim c.1.3.1 [ ]
          | inr x ↦ (let r = stands.request.changing v fs n x in no_request (AChange r.0 r.1) r.2)
        ];
      }

      none_new : (g : Give) → IsOutstanding (s ∷ past) g → IsOutstanding past g
      none_new g o = record {
        made = made g o.made;
        unknown = λ k. o.unknown (inr k);
        first = λ w. o.first (w.0, inr w.1, w.2, w.3, λ k. w.4 (known w.0 k));
      }
        where
          made : (g : Give) → Made (s ∷ past) g → Made past g
          made g (inl i) = elim i [ ]
          made g (inr i) = i

          known : (g : Give) → IsKnown (s ∷ past) g → IsKnown past g
          known g (inl l) = absurd (quiet.none_learnt (number_of g) l)
          known g (inr k) = k

      begins_it : BeginsCall s (suc (calls_begun past)) call
      begins_it = inr (
        first_answer m call can.reply,
        inl refl,
        refl,
        (let b = stands.call.begun in omega (arith, b)),
        refl,
      )

      lines : LinesMay (lines_of script (Host m.host)) (limit_of script.roster m.host) (servers_of script.roster) past s
      lines = record {
        next = λ n e. (
          next.line,
          (next.next.0, next.next.1 ∙ (let p = e in cc)),
          subst (DoesLine (servers_of script.roster) past s) (sym next.deed) begins_it,
        );
        free = λ n e. (none_open, not_many free.few);
        begins = λ k c b. inl (line, refl);
        no_server = (λ n c. cc, λ c. cc);
        applies_none = (refl, refl, refl);
        after = λ c. absurd (cc);
        implied = λ k c e. absurd (cc);
      }

      cause : CauseMay script m.host past s
      cause = record {
        live = stands.live;
        takes = λ t i. elim i [ ];
        takes_all = record { all = λ w t u. absurd (quiet.none_used w u.0); once = λ t u i. elim i [ ] };
        new_gives = λ g o new. absurd (new (none_new g o));
        lines = lines;
      }

      pub meets : HostMay script m.host past s
      meets = replies_may script m past s learnt (m.begun + 1) call true so cause (λ w v e n p. elim p.1 [ ])
          (λ stance x i. elim i [ ])

pub answered_at_once : AnsweredAtOnce
answered_at_once script m past line call can begun stands rest free next takes =
    meets script m past stands rest free line call can begun next takes
