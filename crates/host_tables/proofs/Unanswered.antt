-- A step in which no call is answered; and one in which nothing is given back.
use Rattle.run_rules.specs.Tokens.{Makes}
use Rattle.tree_calls.specs.declared.call.Call.TheVariants.{Sync}
use Rattle.run_rules.specs.Tokens.{HasCall}
use Rattle.std.proofs.Common.{ℕ}
use Rattle.std.proofs.Common.{[]}
use Rattle.host_tables.specs.Answering.{GivesForCall}
use Rattle.base_types.specs.declared.ids.Fid.{Fid}
use Rattle.host_tables.proofs.Lists.{by_test, none_in}
use Rattle.host_tables.specs.Answering.{AnswersNone}
use Rattle.host_tables.specs.Half.{half}
use Rattle.host_tables.specs.Stands.{Finds, IsDirtyFrom, Stands}
use Rattle.host_tables.specs.Tables.{content, held_of, is_length_clean, updates_status}
use Rattle.host_tables.specs.declared.tables.Tables.{Tables}
use Rattle.message_types.specs.declared.giving.Give.{Give}
use Rattle.message_types.specs.declared.message.Body.TheVariants.{GiveBack}
use Rattle.need_host.proofs.Looking.{covered_alike, outcome_alike}
use Rattle.need_host.specs.Walks.{file_look, root_of}
use Rattle.run_rules.specs.HostMay.{HostAnswers}
use Rattle.run_rules.specs.HostTokens.{HostGives}
use Rattle.run_rules.specs.Messages.{HasStopped, SendsTo, stay_of}
use Rattle.run_rules.specs.Past.{In}
use Rattle.run_rules.specs.Tokens.{AtHand, Held as HeldBy, IsOutstanding, Owns}
use Rattle.run_rules.specs.Views.{FindsFile, IsDirtyUnder, Stance, sees}
use Rattle.run_rules.specs.declared.applied.Answer.{Answer as AnswerOf}
use Rattle.run_rules.specs.declared.step.Step.{Step}
use Rattle.script_lines.specs.declared.script.Script.{Script}
use Rattle.std.proofs.Common.{List, ap, arith, inl, inr, length, refl, subst, sym, true, ◌∙◌, ◌∷◌, ◌≡◌}
use Rattle.token_types.specs.declared.token.Kind.{Kind}
use Rattle.token_types.specs.declared.token.Token.{Token}
use Rattle.tree_calls.specs.declared.place.Place.{Place as NamedPlace}
use Rattle.host_tables.proofs.Answered as answered
use Rattle.host_tables.proofs.Standing as standing

module _ (script : Script) (m : Tables) (past : List Step) (s : Step) (stands : Stands script m (half s ∷ past))
    (kept : List Token) (keeps : (t : Token) → In t kept → HeldBy (s ∷ past) t) (cached : (t : Token)
    → HeldBy (s ∷ past) t → In t kept) where
  abbrev its : Stance script.roster m.host past s
  its = standing.stance script m past s stands kept keeps cached

  -- what a Sync finds and has to give back
  finds_here : (stay_of : NamedPlace) (fid : Fid) → FindsFile its stay_of fid → Finds m stay_of fid
  finds_here stay_of fid f =
      let look = file_look m.user (root_of f.0) stay_of.path in
      let back = answered.agree_back script m past s stands in
      record {
        id = f.0;
        nature = f.1;
        seen = f.2;
        covered = covered_alike (held_of m) (sees past s) (content m.cache) back
            (file_look m.user (root_of f.0) stay_of.path) f.3;
        found = sym (outcome_alike (held_of m) (sees past s) (content m.cache) back
            (file_look m.user (root_of f.0) stay_of.path) f.3) ∙ f.4;
      }

  dirty_here : (t : Token) → AtHand s past t → IsDirtyUnder past s t → IsDirtyFrom m past t
  dirty_here t h (inl b) = inl b
  dirty_here t h (inr l) =
      let i = standing.of_hand script m past s stands t h in
      inr (
        subst (λ (k : Kind). updates_status k ≡ true) (sym l.0.1) refl,
        elim (by_test (is_length_clean m.lengths (content m.cache) t.fid)) [
          | inl e ↦ absurd (l.1 (standing.length_clean script m past s stands t.fid t i refl e
              (standing.size_seen script m past s stands t.fid t i refl l.0.1)))
          | inr e ↦ e
        ],
      )

  pub answers : AnswersNone m past s → HostAnswers script.roster m.host past s its
  answers none = record {
    answers = λ a i. absurd (gone a i);
    answers_all = λ k call reply t can.
        absurd (none.stuck k call t (answered.can_here script m past s stands kept keeps cached call reply can));
    first = λ a i. absurd (gone a i);
    asked = λ a c i. absurd (gone a i);
    answers_one = let e = ap (λ (l : List AnswerOf). length l) none.answers in omega (arith, e);
    answers_alone = λ a fs n i. absurd (gone a i);
    answers_settled = λ a v fs n i. absurd (gone a i);
    keeps = λ a i. absurd (gone a i);
    quiet = λ a i. absurd (gone a i);
    writes = λ a fid from bytes i. absurd (gone a i);
    writes_only = λ fid e. absurd (let p = sym none.wrote ∙ e in cc);
    locks = λ a fid writing span i. absurd (gone a i);
    opens = λ a fid kind i. absurd (gone a i);
    begins = λ u i. absurd (none_in s.begun none.begun u i);
    begins_one = λ u w i. absurd (none_in s.begun none.begun u i);
  }
    where
      gone : (a : AnswerOf) → In a s.answers → ⊥
      gone = none_in s.answers none.answers

  -- what is due of the call
  pub syncs : GivesForCall m past s → (k : ℕ) (place : NamedPlace) (fid : Fid) (t : Token)
      → HasCall past s k (Sync place)
      → FindsFile its place fid → AtHand s past t → t.fid ≡ fid → IsDirtyUnder past s t → Makes s t.id
  syncs gives k place fid t turn finds h same d =
      gives.syncs k place fid t turn (finds_here place fid finds) (standing.of_hand script m past s stands t h) same
      (dirty_here t h d)

-- nothing is given back, and all tokens stay: what becomes outstanding is sent
pub gives_none : (past : List Step) (s : Step) → s.made ≡ [] → ((t : Token) → Owns past t → Owns (s ∷ past) t)
    → ((g : Give) → IsOutstanding (s ∷ past) g → (IsOutstanding past g → ⊥) → (HasStopped (s ∷ past) → ⊥)
    → SendsTo s (stay_of (s ∷ past) g.fid.fileset) (GiveBack g))
    → HostGives past s
gives_none past s made owns sends = record {
  names = λ g i. absurd (none_in s.made made g i);
  rise = λ g i. absurd (none_in s.made made g i);
  one_a_file = λ g k i. absurd (none_in s.made made g i);
  next = λ g i. absurd (none_in s.made made g i);
  bytes = λ g at x i. absurd (none_in s.made made g i);
  bytes_saved = λ fid at d o. inl (o.0, owns o.0 o.1, o.2);
  length = λ g n i. absurd (none_in s.made made g i);
  length_too = λ g i. absurd (none_in s.made made g i);
  length_saved = λ t o d. inl (owns t o);
  ends = λ g e i. absurd (none_in s.made made g i);
  ends_used = λ g u i. absurd (none_in s.made made g i);
  sends = sends;
}
