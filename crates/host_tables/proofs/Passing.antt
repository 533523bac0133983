-- A line that raises or awaits a flag.
use Rattle.base_types.specs.declared.ids.FilesetId.{FilesetId}
use Rattle.base_types.specs.declared.ids.Node.TheVariants.{Host}
use Rattle.base_types.specs.declared.ids.ServerId.{ServerId}
use Rattle.host_tables.proofs.Letting.{leaves_may}
use Rattle.host_tables.specs.AtOnce.{IsFree}
use Rattle.host_tables.specs.Causes.{CauseMay}
use Rattle.host_tables.specs.Giving.{GivesBack}
use Rattle.host_tables.specs.Learning.{TeachesNothing}
use Rattle.host_tables.specs.Machine.{Rests, StepRight}
use Rattle.host_tables.specs.Stands.{Stands}
use Rattle.host_tables.specs.Tables.{held_of}
use Rattle.host_tables.specs.declared.calls.Request.{Request}
use Rattle.host_tables.specs.declared.calls.Request.TheVariants.{Change as AChange, Fetch as AFetch}
use Rattle.host_tables.specs.declared.tables.Tables.{Tables}
use Rattle.message_types.specs.declared.giving.Give.{Give}
use Rattle.run_rules.specs.HostMay.{DoesLine, HostMay}
use Rattle.run_rules.specs.Messages.{Asking, Changing}
use Rattle.run_rules.specs.Steps.{IsNextLine, bare, lines_of, servers_of}
use Rattle.run_rules.specs.Tokens.{HasCall, IsOpen, IsOutstanding, LeavesHost, NoneOpen, number_of}
use Rattle.run_rules.specs.declared.step.Asked.{Asked}
use Rattle.run_rules.specs.declared.step.Cause.TheVariants.{Line as LineOf}
use Rattle.run_rules.specs.declared.step.Step.{Step}
use Rattle.script_lines.specs.declared.script.Line.{Line}
use Rattle.script_lines.specs.declared.script.Script.{Script}
use Rattle.std.proofs.Common.{List, Some, inl, inr, refl, sym, ℕ, ◌∙◌, ◌∷◌, ◌≡◌}
use Rattle.token_types.specs.declared.token.TokenId.{TokenId}
use Rattle.tree_calls.specs.declared.call.Call.{Call}
use Rattle.host_tables.proofs.AtOnce as at_once
use Rattle.host_tables.proofs.Learning as learning_of

module _ (script : Script) (m : Tables) (past : List Step) (number : ℕ) (line : Line) (rests : Rests script m past)
    (free : IsFree m)
    (next : IsNextLine (lines_of script (Host m.host)) past number line)
    (does : DoesLine (servers_of script.roster) past (bare (Host m.host) (LineOf number)) line.deed) where
  abbrev s : Step
  s = bare (Host m.host) (LineOf number)

  stands : Stands script m past
  stands = rests.stands

  quiet : TeachesNothing past s
  quiet = learning_of.teaches_nothing past s tt

  after : Stands script m (s ∷ past)
  after = learning_of.unmoved m.host (LineOf number) past quiet script m refl stands

  none_open : NoneOpen past
  none_open c o = let p = sym free.none_open ∙ stands.call.asked c o in absurd (cc)

  open_before : (c : Asked) → IsOpen (s ∷ past) c → IsOpen past c
  open_before c (inl e) = absurd (cc)
  open_before c (inr o) = o.0

  no_turn : (k : ℕ) (call : Call) → HasCall past s k call → ⊥
  no_turn k call (inl (inl e)) = absurd (cc)
  no_turn k call (inl (inr b)) = elim b.1 [ ]
  no_turn k call (inr g) = none_open _ g.0

  no_request : (r : Request) → m.request ≡ Some r → ⊥
  no_request r e = let p = sym (rests.rest.alone free.none_open) ∙ e in absurd (cc)

  no_leaves : (i : TokenId) → LeavesHost s i → ⊥
  no_leaves i (inl x) = elim x.1 [ ]
  no_leaves i (inr r) = elim r.4.1 [ ]

  none_asking : (fs : FilesetId) (n : ℕ) → Asking (s ∷ past) fs n → ⊥
  none_asking fs n a = elim a.0 [
    | inl f ↦ elim f.1.3.1 [ ]
    | inr x ↦ (let r = stands.request.asking fs n x in
        no_request (AFetch r.0) r.1)
  ]

  none_changing : (v : ServerId) (fs : FilesetId) (n : ℕ) → Changing (s ∷ past) v fs n → ⊥
  none_changing v fs n a = elim a.0 [
    | inl c ↦ elim c.1.3.1 [ ]
    | inr x ↦ (let r = stands.request.changing v fs n x in
        no_request (AChange r.0 r.1) r.2)
  ]

  none_new : (g : Give) → IsOutstanding (s ∷ past) g → IsOutstanding past g
  none_new g o = record {
    made = elim o.made [ inl i ↦ elim i [ ] | inr i ↦ i ];
    unknown = λ k. o.unknown (inr k);
    first = λ w. o.first (
      w.0,
      inr w.1,
      w.2,
      w.3,
      λ k. w.4 (elim k [ inl l ↦ absurd (quiet.none_learnt (number_of w.0) l) | inr q ↦ q ]),
    );
  }

  cause : CauseMay script m.host past s
  cause = record {
    live = stands.live;
    takes = λ t i. elim i [ ];
    takes_all = record { all = λ w t u. absurd (quiet.none_used w u.0); once = λ t u i. elim i [ ] };
    new_gives = λ g o new. absurd (new (none_new g o));
    lines = record {
      next = λ n e. (line, (next.0, next.1 ∙ (let p = e in cc)), does);
      free = λ n e. (none_open, at_once.not_many script m past stands free.few);
      begins = λ k c b. absurd (no_turn k c (inl b));
      no_server = (λ n c. cc, λ c. cc);
      applies_none = (refl, refl, refl);
      after = λ c. absurd (cc);
      implied = λ k c e. absurd (cc);
    };
  }

  gives : GivesBack m past s (held_of m)
  gives = record {
    names = λ g i. elim i [ ];
    rise = λ g i. elim i [ ];
    ids = λ g i j. elim j [ ];
    one = λ g k i. elim i [ ];
    above = λ g i. elim i [ ];
    next = λ g i. elim i [ ];
    apart = λ g k i. elim i [ ];
    has = λ g at x i. elim i [ ];
    saves = λ t fid at d i u. inl (t, i, u);
    length_is = λ g i. elim i [ ];
    saves_length = λ t i k e. inl i;
    ends = λ g e i. elim i [ ];
    ends_used = λ g u i. elim i [ ];
    sends = λ g o new. absurd (new (none_new g o));
  }

  pub meets : HostMay script m.host past s
  meets = leaves_may script m past s after (held_of m)
      (record {
        were = λ t i. i;
        stay = λ t i. (no_leaves t.id, λ d. elim d.1 [ ]);
        gone = λ t i. inl i;
        dropped = λ t d. elim d.1 [ ];
      })
      gives
      (record {
        answers = refl;
        wrote = refl;
        begun = refl;
        stuck = λ k call t. absurd (no_turn k call t);
      })
      cause (λ l i. elim i [ ])
      (λ stance k h o u. record {
        may = λ x i. elim i [ ];
        asks = λ c x. absurd (none_open c (open_before c x));
        one_fetch = λ fs gs n k a. absurd (none_asking fs n a);
        one_change = λ v w fs gs n k a. absurd (none_changing v fs n a);
        one_of_both = λ v fs gs n k a b. none_asking fs n a;
      })

  pub right : StepRight script m m past s
  right = record {
    may = meets;
    rests = record {
      stands = after;
      rest = record {
        stuck = λ c e. absurd (let p = sym free.none_open ∙ e in cc);
        synced = λ c place fid t e. absurd (let p = sym free.none_open ∙ e in cc);
        freed = λ c u e. absurd (let p = sym free.none_open ∙ e in cc);
        waits = λ c e. absurd (let p = sym free.none_open ∙ e in cc);
        alone = rests.rest.alone;
      };
    };
  }
