-- A run meets the rules of tokens.
use Rattle.std.proofs.Common.{Bool, List, None, Option, Some, [], ap, arith, false, if◌then◌else◌, length, max, nat_lt}
use Rattle.std.proofs.Common.{refl, sym, true, ℕ, ◌&&◌, ◌<◌, ◌||◌, ◌∙◌, ◌∷◌, ◌≡◌}
use Rattle.std.specs.List.{list_all, list_any}
use Rattle.std.specs.Option.{option_map_or}
use Rattle.std.specs.Prelude.{is_some, map, ◌++◌}
use Rattle.base_types.specs.declared.ids.Fid.{Fid}
use Rattle.base_types.specs.declared.ids.HostId.{HostId}
use Rattle.base_types.specs.declared.span.Span.{Span}
use Rattle.tree_calls.specs.declared.reply.Reply.TheVariants.{Ok as Fine}
use Rattle.message_types.specs.declared.giving.Ends.{Ends}
use Rattle.message_types.specs.declared.giving.Give.{Give}
use Rattle.run_rules.specs.Doings.{Doing, after_step, doings_of}
use Rattle.run_rules.specs.Kept.{filesets_kept, takes_gifts}
use Rattle.run_rules.specs.ServerDecides.{ServerApplies, by_cause, decisions, ended_by, is_decision, span_of, stored_of}
use Rattle.run_rules.specs.Steps.{steps_of_server}
use Rattle.run_rules.specs.declared.applied.Applied.{Applied}
use Rattle.run_rules.specs.declared.applied.Applied.TheVariants.{Done, IsDown, Moves, Replied, Stored, Wants}
use Rattle.run_tokens.specs.Unmoved.{MovesNone, StaysPut, is_move}
use Rattle.run_tokens.proofs.Unmoved.{first_put, step_put}
use Rattle.run_tokens.proofs.Words.{acts_after, if_server}
use Rattle.base_types.specs.declared.ids.Node.{Node}
use Rattle.base_types.specs.declared.ids.ServerId.{ServerId}
use Rattle.tree_answers.specs.declared.tree.Tree.{Tree}
use Rattle.script_lines.specs.declared.script.Script.{Script}
use Rattle.run_rules.specs.Runs.{IsRun, StepMeets, StepsMeet, firsts_of, past_of}
use Rattle.run_tokens.specs.CacheLaws.{NeverInConflict}
use Rattle.run_tokens.specs.TokenLaws.{AreAlwaysSafe, IsTokenRun, StepMay}
use Rattle.run_rules.specs.declared.journal.Journal.{Journal}
use Rattle.run_rules.specs.declared.step.Step.{Step}
use Rattle.base_types.specs.declared.ids.Node.TheVariants.{Host, Server}
use Rattle.run_tokens.proofs.Law.{never_conflict}

step_may : (script : Script) (start : Tree) (firsts : ServerId → ℕ) (n : Node) (past : List Step) (s : Step)
    → StepMeets script start firsts n past s → StepMay firsts n past s
step_may script start firsts (Host host) past s m = (m.0.tokens, m.1)
step_may script start firsts (Server server) past s m = (m.0.tokens, m.1)

-- no step of today moves a fileset
pub decide_none : (xs : List Applied) → list_all is_decision xs ≡ true → list_any is_move xs ≡ false
decide_none [] all = refl
decide_none (Wants w ∷ xs) all = decide_none xs all
decide_none (Done w ∷ xs) all = decide_none xs all
decide_none (Replied answer ∷ xs) all = absurd (cc)
decide_none (Stored host fid spans given ∷ xs) all = absurd (cc)
decide_none (IsDown host ∷ xs) all = absurd (cc)
decide_none (Moves move ∷ xs) all = absurd (cc)

apply_none : (xs : List Applied) → list_any is_move (by_cause xs) ≡ false → list_all is_decision (decisions xs) ≡ true
    → list_any is_move xs ≡ false
apply_none [] none all = refl
apply_none (Wants w ∷ xs) none all = decide_none xs all
apply_none (Done w ∷ xs) none all = decide_none xs all
apply_none (Replied answer ∷ xs) none all = apply_none xs none all
apply_none (Stored host fid spans given ∷ xs) none all = apply_none xs none all
apply_none (IsDown host ∷ xs) none all = apply_none xs none all
apply_none (Moves move ∷ xs) none all = absurd (cc)

stores_none : (b : Bool) (host : HostId) (fid : Fid) (spans : List Span) (given : Option ℕ) (ended : List Applied)
    → list_any is_move ended ≡ false
    → list_any is_move ((if b then Stored host fid spans given ∷ [] else []) ++ ended) ≡ false
stores_none true host fid spans given ended none = none
stores_none false host fid spans given ended none = none

ends_none : (ends : Option Ends) (host : HostId)
    → list_any is_move (option_map_or
    (λ x. Replied (record { host = host; k = x.k; call = x.call; reply = Fine; first = false }) ∷ []) ends []) ≡ false
ends_none None host = refl
ends_none (Some x) host = refl

given_none : (tree : Tree) (h : HostId) (g : Give) → list_any is_move (stored_of tree h g ++ ended_by h g) ≡ false
given_none tree h g =
    stores_none (takes_gifts tree g.fid && (nat_lt 0 (length g.pieces) || is_some g.length)) h g.fid
    (map span_of g.pieces) g.length (ended_by h g) (ends_none g.ends h)

not_both : (b : Bool) → b ≡ true → b ≡ false → ⊥
not_both b y n = let q : true ≡ false = sym y ∙ n in cc

cause_none : (v : ServerId) (tree : Tree) (S : List Doing) (s : Step) → ServerApplies v tree S s
    → list_any is_move (by_cause s.applied) ≡ false
cause_none v tree S s may = go (list_any is_move (by_cause s.applied)) refl
  where
    go : (b : Bool) → list_any is_move (by_cause s.applied) ≡ b → b ≡ false
    go false is = refl
    go true is = absurd (not_both (list_any is_move (by_cause s.applied)) is (ap (list_any is_move) none))
      where
        none : by_cause s.applied ≡ []
        none =
            may.else_none
            (λ h g first. not_both (list_any is_move (by_cause s.applied)) is
            (ap (list_any is_move) (may.given h g first) ∙ given_none tree h g))
            (λ h first. not_both (list_any is_move (by_cause s.applied)) is
            (ap (list_any is_move) (may.down h first)))

pub works_none : (v : ServerId) (tree : Tree) (S : List Doing) (s : Step) → ServerApplies v tree S s → MovesNone s
works_none v tree S s may = apply_none s.applied (cause_none v tree S s may) may.decided

pub none_moves : (script : Script) (start : Tree) (firsts : ServerId → ℕ) (n : Node) (past : List Step) (s : Step)
    → StepMeets script start firsts n past s → MovesNone s
none_moves script start firsts (Host host) past s m = ap (list_any is_move) m.0.lines.applies_none.0
none_moves script start firsts (Server server) past s m =
    works_none server (filesets_kept start server (steps_of_server server past)) (doings_of (firsts server) server past) s
    m.0.works.applies

put_after : (n : Node) (past : List Step) (s : Step) (firsts : ServerId → ℕ) (v : ServerId) → MovesNone s
    → StaysPut (doings_of (firsts v) v past) → StaysPut (acts_after v n s (doings_of (firsts v) v past))
put_after (Host h) past s firsts v none put = put
put_after (Server k) past s firsts v none put =
    if_server StaysPut k v (after_step s (doings_of (firsts v) v past)) (doings_of (firsts v) v past)
    (λ e. step_put s (doings_of (firsts v) v past) none put) put

pub stays_put : (script : Script) (start : Tree) (firsts : ServerId → ℕ) (past : List Step)
    → StepsMeet script start firsts past → (v : ServerId) → StaysPut (doings_of (firsts v) v past)
stays_put script start firsts [] run v = first_put (firsts v)
stays_put script start firsts (s ∷ past) run v =
    put_after s.node past s firsts v (none_moves script start firsts s.node past s run.1.0)
    (stays_put script start firsts past run.0 v)

pub token_run : (script : Script) (start : Tree) (firsts : ServerId → ℕ) (past : List Step)
    → ((v : ServerId) → 0 < firsts v) → StepsMeet script start firsts past → IsTokenRun firsts past
token_run script start firsts [] up run = up
token_run script start firsts (s ∷ past) up run = (
  token_run script start firsts past up run.0,
  step_may script start firsts s.node past s run.1.0,
  λ m i. (run.1.3 m i).0,
  none_moves script start firsts s.node past s run.1.0,
)

above : (n : ℕ) → 0 < max 1 n
above n = omega arith

pub safe : (script : Script) (journal : Journal) → IsRun script journal → AreAlwaysSafe (firsts_of journal) (past_of journal)
safe script journal run =
    never_conflict (firsts_of journal) (past_of journal)
    (token_run script run.start (firsts_of journal) (past_of journal) (λ v. above _) run.steps)

apart_past : (firsts : ServerId → ℕ) (past : List Step) → AreAlwaysSafe firsts past → NeverInConflict past
apart_past firsts [] a = a.no_conflict
apart_past firsts (s ∷ past) a = (apart_past firsts past a.0, a.1.no_conflict)

pub apart : (script : Script) (journal : Journal) → IsRun script journal → NeverInConflict (past_of journal)
apart script journal run = apart_past (firsts_of journal) (past_of journal) (safe script journal run)
