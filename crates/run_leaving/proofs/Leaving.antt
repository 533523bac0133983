-- Why tokens leave a host.
use Rattle.std.proofs.Common.{List, ap, arith, false, length, length-append, refl, subst, suc, ℕ, ◌+◌, ◌++◌, ◌-◌, ◌<◌, ◌==◌, ◌∙◌, ◌≡◌, inl, inr, [], ◌∷◌}
use Rattle.std.proofs.lemmas.List.{append-nil}
use Rattle.std.specs.Option.{option_map_or}
use Rattle.std.specs.Prelude.{if◌then◌else◌, slice_get}
use Rattle.std.proofs.lemmas.Grind.{common_steps}
use Rattle.base_types.specs.declared.ids.HostId.{HostId}
use Rattle.base_types.specs.declared.ids.Node.{Node}
use Rattle.base_types.specs.declared.ids.Node.TheVariants.{Host}
use Rattle.base_types.specs.declared.ids.ServerId.{ServerId}
use Rattle.base_types.specs.declared.limits.TheConstants.{CACHED_TOKENS_DEFAULT}
use Rattle.script_lines.specs.declared.script.Script.{Script}
use Rattle.token_types.specs.declared.token.Token.{Token}
use Rattle.tree_answers.specs.declared.tree.Tree.{Tree}
use Rattle.tree_calls.specs.declared.roster.HostLine.{HostLine}
use Rattle.tree_calls.specs.declared.roster.Roster.{Roster}
use Rattle.run_examples.proofs.LeaveChecks.{no_more}
use Rattle.run_tokens.proofs.Evicting.{last_before}
use Rattle.run_rules.specs.HostMay.{HostMay}
use Rattle.run_rules.specs.HostTokens.{HasUnused, IsOldest, IsUnused, LastUsed, MayLeave, UsesToken}
use Rattle.run_rules.specs.Messages.{HasKeptToken}
use Rattle.run_rules.specs.Past.{Always, In}
use Rattle.run_rules.specs.Runs.{StepMeets, StepsMeet, firsts_of, past_of}
use Rattle.run_rules.specs.Steps.{limit_of, steps_of_host}
use Rattle.run_rules.specs.Tokens.{Drops, Held}
use Rattle.run_rules.specs.declared.applied.Why.TheVariants.{Ended, Evicted, ForCall, Revoked, Stopped}
use Rattle.run_rules.specs.declared.applied.Leave.{Leave}
use Rattle.run_rules.specs.declared.applied.Why.{Why}
use Rattle.run_rules.specs.declared.step.Step.{Step}
use Rattle.run_leaving.specs.Leaving.{AreFew, FewStay, IsTakenIn, LeavesBy, LieUnused, LimitsAreTold, TokensLeaveSo, YoungerStay}
use Rattle.run_leaving.specs.Leaving.LeavesBy.{HostEnds, HostStops, IsAskedBack, IsEvicted, IsReleased, IsSynced}

so : (roster : Roster) (host : HostId) (past : List Step) (s : Step) (why : Why) (t : Token)
    → MayLeave roster host (limit_of roster host) past s why t → LeavesBy roster host past s t
so roster host past s Revoked t may =
    let (r, about, named) = may.0 in IsAskedBack r about named may.1
so roster host past s Evicted t may = IsEvicted may.0 may.1.1 may.2 may.3
so roster host past s ForCall t (inl (k, place, stance, turn, finds, dirty)) = IsSynced k place stance turn finds dirty
so roster host past s ForCall t (inr (k, u, turn, frees, same)) =
    IsReleased k u turn same frees.0 (subst (λ (t : Token). HasKeptToken past t.id) same frees.1)
so roster host past s Ended t may = HostEnds may.0 may.1
so roster host past s Stopped t (v, e, n, sends) = HostStops v e n sends

module _ (script : Script) (start : Tree) (firsts : ServerId → ℕ) where
  at_step : (past : List Step) (s : Step) → StepMeets script start firsts s.node past s → (host : HostId)
      → s.node ≡ Host host → (t : Token) → Drops s t → LeavesBy script.roster host (steps_of_host host past) s t
  at_step past s meets host node t (leave, dropped, its) =
      let may : HostMay script host (steps_of_host host past) s =
      (subst (λ (n : Node). StepMeets script start firsts n past s) node meets).0 in
      subst (LeavesBy script.roster host (steps_of_host host past) s) its
      (so script.roster host (steps_of_host host past) s leave.why leave.token (may.leaves.leaves leave dropped))

  all_steps : (past : List Step) → StepsMeet script start firsts past
      → Always (λ before s. (host : HostId) → s.node ≡ Host host → (t : Token) → Drops s t
      → LeavesBy script.roster host (steps_of_host host before) s t) past
  all_steps [] meets = tt
  all_steps (s ∷ past) meets = (all_steps past meets.0, at_step past s meets.1.0)

pub tokens_leave_so : TokensLeaveSo
tokens_leave_so script journal run = all_steps script run.start (firsts_of journal) (past_of journal) run.steps

-- no more tokens are idle than a few
few : (roster : Roster) (host : HostId) (past : List Step) → AreFew roster host past →
    HasUnused past (suc (limit_of roster host)) → ⊥
few roster host past (tokens, all, short) (idle, once, long, are) =
    let no_more_than = no_more idle tokens once (λ t there. all t (are t there)) in
    omega (arith, short, long, no_more_than)

-- why an evicted token leaves
evicted : (roster : Roster) (host : HostId) (past : List Step) (s : Step) (l : Leave) → l.why ≡ Evicted →
    MayLeave roster host (limit_of roster host) past s l.why l.token →
    MayLeave roster host (limit_of roster host) past s Evicted l.token
evicted roster host past s l why may =
    subst (λ w. MayLeave roster host (limit_of roster host) past s w l.token) why may

-- A token that some of the later steps used was last used in one of them, which isn't decided but can't be refuted.
late : (roster : Roster) (host : HostId) (t : Token) (later earlier : List Step) → IsTakenIn later t →
    ((n : ℕ) → LastUsed roster host (later ++ earlier) t n → length earlier < n → ⊥) → ⊥
late roster host t [] earlier taken k = absurd taken
late roster host t (s ∷ later) earlier (inl here) k =
    let long = length-append later earlier in
    k (suc (length (later ++ earlier))) (inl (inl here, refl)) (omega (arith, long))
late roster host t (s ∷ later) earlier (inr before) k =
    late roster host t later earlier before (λ n last above.
    k n (inr (
      last,
      λ uses.
          (let long = length-append later earlier in
          k (suc (length (later ++ earlier))) (inl (uses, refl)) (omega (arith, long))),
    )) above)

-- One that none of them used was last used before.
unused : (roster : Roster) (host : HostId) (t : Token) (later earlier : List Step) (n : ℕ) → LieUnused later t →
    LastUsed roster host earlier t n → LastUsed roster host (later ++ earlier) t n
unused roster host t [] earlier n lies last = last
unused roster host t (s ∷ later) earlier n lies last =
    inr (unused roster host t later earlier n lies.0 last, not_used lies.1 lies.2)
  where
    not_used : s.answers ≡ [] → (In t s.taken → ⊥) → UsesToken roster host (later ++ earlier) s t → ⊥
    not_used none free (inl taken) = free taken
    not_used none free (inr (stance, a, need, there, asked, helps)) = subst (λ answers. In a answers) none there

-- a token that is held was taken
was_taken : (t : Token) (later earlier : List Step) → LieUnused later t → Held (later ++ earlier) t →
    IsTakenIn earlier t
was_taken t [] earlier lies held = taken earlier held
  where
    taken : (past : List Step) → Held past t → IsTakenIn past t
    taken [] held = absurd held
    taken (s ∷ past) (inl here, stays) = inl here
    taken (s ∷ past) (inr before, stays) = inr (taken past before)
was_taken t (s ∷ later) earlier lies (inl here, stays) = absurd (lies.2 here)
was_taken t (s ∷ later) earlier lies (inr before, stays) = was_taken t later earlier lies.0 before

younger : (roster : Roster) (host : HostId) (t other : Token) (later earlier : List Step) →
    IsOldest roster host (later ++ earlier) t → IsUnused (later ++ earlier) other → IsTakenIn later t →
    LieUnused later other → ⊥
younger roster host t other later earlier oldest idle taken lies =
    late roster host t later earlier taken (λ n last above.
    late roster host other earlier [] (was_taken other later earlier lies idle.0) (λ m old some.
    (let same = append-nil earlier in
    let old_here = subst (λ past. LastUsed roster host past other m) same old in
    let first = oldest other n m idle last (unused roster host other later earlier m lies old_here) in
    let before = last_before roster host earlier other m old_here in
    omega (arith, above, first, before))))

module _ (script : Script) (start : Tree) (firsts : ServerId → ℕ) where
  -- what the rules say of a leave
  its_rule : (past : List Step) (s : Step) → StepMeets script start firsts s.node past s → (host : HostId) →
      s.node ≡ Host host → (l : Leave) → In l s.dropped → l.why ≡ Evicted →
      MayLeave script.roster host (limit_of script.roster host) (steps_of_host host past) s Evicted l.token
  its_rule past s meets host node l there why =
      let may : HostMay script host (steps_of_host host past) s =
      (subst (λ (n : Node). StepMeets script start firsts n past s) node meets).0 in
      evicted script.roster host (steps_of_host host past) s l why (may.leaves.leaves l there)

  no_few : (past : List Step) → StepsMeet script start firsts past →
      Always (λ before s. (host : HostId) → s.node ≡ Host host → AreFew script.roster host (steps_of_host host before)
      → (l : Leave) → In l s.dropped → l.why ≡ Evicted → ⊥) past
  no_few [] meets = tt
  no_few (s ∷ past) meets = (
    no_few past meets.0,
    λ host node are l there why.
        few script.roster host (steps_of_host host past) are (its_rule past s meets.1.0 host node l there why).1.1,
  )

  no_younger : (past : List Step) → StepsMeet script start firsts past →
      Always (λ before s. (host : HostId) → s.node ≡ Host host → (l : Leave) → In l s.dropped → l.why ≡ Evicted
      → (other : Token) → IsUnused (steps_of_host host before) other → (later earlier : List Step)
      → steps_of_host host before ≡ later ++ earlier → IsTakenIn later l.token → LieUnused later other → ⊥) past
  no_younger [] meets = tt
  no_younger (s ∷ past) meets = (
    no_younger past meets.0,
    λ host node l there why other idle later earlier e taken lies.
        younger script.roster host l.token other later earlier
        (subst (λ p. IsOldest script.roster host p l.token) e (its_rule past s meets.1.0 host node l there why).3)
        (subst (λ p. IsUnused p other) e idle) taken lies,
  )

pub few_stay : FewStay
few_stay = record {
  leaves = λ script journal run. no_few script run.start (firsts_of journal) (past_of journal) run.steps;
  steps = λ script host past s due are cause.
      few script.roster host past are (due.leaves.evicts cause).0.1;
}

pub younger_stay : YoungerStay
younger_stay script journal run = no_younger script run.start (firsts_of journal) (past_of journal) run.steps

pub limits_are_told : LimitsAreTold
limits_are_told = record {
  setup = λ roster. refl;
  host = λ roster i line there.
      (let some : ((i + 1) == 0) ≡ false = grind (arith, common_steps) in
      let place : (i + 1) - 1 ≡ i = omega arith in
      ap (λ b. if b then CACHED_TOKENS_DEFAULT
      else option_map_or (λ (line : HostLine). line.limit) (slice_get roster.hosts ((i + 1) - 1))
      CACHED_TOKENS_DEFAULT) some
      ∙ ap (λ o. option_map_or (λ (line : HostLine). line.limit) o CACHED_TOKENS_DEFAULT)
      (ap (slice_get roster.hosts) place ∙ there));
}
