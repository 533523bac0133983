-- Nodes that make no steps are done, and may take part.
use Rattle.std.proofs.Common.{◌≡◌, ◌<◌, ◌≤◌, ◌⊎◌, ⊎_elim, inl, inr, ℕ, zero, suc, Bool, true, false, cond, ◌==◌}
use Rattle.std.proofs.Common.{List, [], ◌∷◌, Option, None, Some, is_some, filter, get_or, length, ◌++◌}
use Rattle.std.proofs.Common.{refl, sym, ap, ◌∙◌, subst, arith}
use Rattle.base_types.specs.declared.ids.HostId.{HostId}
use Rattle.base_types.specs.declared.ids.Node.{Node}
use Rattle.base_types.specs.declared.ids.Node.TheVariants.{Host, Server}
use Rattle.script_lines.specs.declared.script.Line.{Line}
use Rattle.script_lines.specs.declared.script.Script.{Script}
use Rattle.tree_answers.specs.declared.tree.Tree.{Tree}
use Rattle.run_rules.specs.Past.{appended}
use Rattle.run_rules.specs.Runs.{IsValid}
use Rattle.run_rules.specs.Steps.{is_node, lines_of}
use Rattle.run_rules.specs.declared.step.Step.{Step}
use Rattle.hub_board.specs.Hubs.{hosts_up_to, nodes_of, servers_up_to}
use Rattle.hub_board.specs.declared.given.Given.{Given}
use Rattle.hub_laws.specs.Keeping.{Round, steps_in}
use Rattle.hub_node.specs.Nodes.{Beginning, IsDone, Knows, Part}
use Rattle.hub_drive.specs.Driving.{AreNodes, CanStart, beginning}
use Rattle.hub_drive_tests.specs.Stubs.{RestServers, StandsIdle, may_rest}
use Rattle.hub_drive_tests.specs.declared.stub.Stub.{Stub}

front_at : (xs ys : List Stub) (i : ℕ) (d : Stub) → i < length xs → get_or (xs ++ ys) i d ≡ get_or xs i d
front_at [] ys i d lt = absurd (omega (arith, lt))
front_at (x ∷ xs) ys zero d lt = refl
front_at (x ∷ xs) ys (suc i) d lt = front_at xs ys i d (omega (arith, lt))

push_at : (xs : List Stub) (x : Stub) (i : ℕ) (d : Stub) → i ≡ length xs → get_or (xs ++ x ∷ []) i d ≡ x
push_at [] x zero d e = refl
push_at [] x (suc i) d e = absurd (omega (arith, e))
push_at (y ∷ xs) x zero d e = absurd (omega (arith, e))
push_at (y ∷ xs) x (suc i) d e = push_at xs x i d (omega (arith, e))

below_or_at : (xs : List Stub) (x : Stub) (i : ℕ) → i < length (xs ++ x ∷ []) → (i < length xs) ⊎ (i ≡ length xs)
below_or_at [] x zero lt = inr refl
below_or_at [] x (suc i) lt = absurd (omega (arith, lt))
below_or_at (y ∷ xs) x zero lt = inl (omega arith)
below_or_at (y ∷ xs) x (suc i) lt = ⊎_elim
    (λ (less : i < length xs). inl (omega (arith, less))) (λ (same : i ≡ length xs). inr (omega (arith, same)))
    (below_or_at xs x i (omega (arith, lt)))

-- a host has no lines in such a script
no_lines : (script : Script) (host : HostId) → script.setup ≡ [] → script.lines ≡ []
    → length (lines_of script (Host host)) ≡ 0
no_lines script host setup lines = by_test (host.0 == 0)
  where
    by_test : (b : Bool)
        → length (cond b script.setup (filter (λ (line : Line). is_node (Host host) line.node) script.lines)) ≡ 0
    by_test true = ap (λ (l : List Line). length l) setup
    by_test false =
        ap (λ l. length (filter (λ (line : Line). is_node (Host host) line.node) l)) lines

pub is_done : (run : Beginning) (node : Node) (own : List Step) → own ≡ [] → run.script.setup ≡ []
    → run.script.lines ≡ [] → Knows ⊥ node → IsDone run node own
is_done run (Server server) own none setup lines knows = absurd knows
is_done run (Host host) own none setup lines knows =
    subst (IsDone run (Host host)) (sym none)
    (sym (no_lines run.script host setup lines), inr (λ server greeted. absurd greeted.2))

-- no step was made before, and none is handed in
pub still_none : (past : List Round) (made : List Step) (given : Option Given) → made ≡ [] → steps_in past ≡ []
    → steps_in (record { steps = made; given = given } ∷ past) ≡ []
still_none past made given nothing none = ap (λ l. appended l (steps_in past)) nothing ∙ none

pub stands_on : (part : Part) (n new : Stub) (past : List Round) (made steps : List Step) (given : Option Given)
    → StandsIdle part n past made → new.part ≡ n.part → steps ≡ []
    → StandsIdle part new (record { steps = made; given = given } ∷ past) steps
stands_on part n new past made steps given stood same none = record {
  nothing = none;
  none = still_none past made given stood.nothing stood.none;
  setup = stood.setup;
  lines = stood.lines;
  server = (λ rests. stood.server (sym (ap may_rest same) ∙ rests));
}

-- nothing was given
pub none_given : {A : Type 0} (o : Option A) → is_some o ≡ false → o ≡ None
none_given None e = refl
none_given (Some x) e = absurd (cc)

-- a script of four hosts and two servers has seven nodes
pub seven : (script : Script) → length script.roster.hosts ≡ 4 → script.servers ≡ 2 → length (nodes_of script) ≡ 7
seven script hosts servers =
    ap (λ n. length (hosts_up_to n ++ servers_up_to script.servers)) hosts
    ∙ ap (λ n. length (hosts_up_to 4 ++ servers_up_to n)) servers

-- one more
at_push : (stubs : List Stub) (new d : Stub) (i : ℕ) → i < length (stubs ++ new ∷ [])
    → (may_rest (get_or stubs i d).part ≡ true → i < length stubs → 5 ≤ i)
    → (may_rest new.part ≡ true → 5 ≤ length stubs)
    → may_rest (get_or (stubs ++ new ∷ []) i d).part ≡ true → 5 ≤ i
at_push stubs new d i lt front last rests = ⊎_elim
    (λ (less : i < length stubs).
    front (subst (λ s. may_rest s.part ≡ true) (front_at stubs (new ∷ []) i d less) rests) less)
    (λ (same : i ≡ length stubs). subst (λ n. 5 ≤ n) (sym same)
    (last (subst (λ s. may_rest s.part ≡ true) (push_at stubs new i d same) rests)))
    (below_or_at stubs new i lt)

pub rest_push : (stubs : List Stub) (new : Stub) (place : ℕ) → RestServers stubs → length stubs ≡ place
    → (may_rest new.part ≡ true → 5 ≤ place) → RestServers (stubs ++ new ∷ [])
rest_push stubs new place rest many last = record {
  places = (λ i d lt. at_push stubs new d i lt (λ rests less. rest.places i d less rests)
      (λ rests. subst (λ n. 5 ≤ n) (sym many) (last rests)));
}

pub rest_none : RestServers []
rest_none = record { places = (λ i d lt rests. absurd (omega (arith, lt))) }

-- the last two are servers
last_two : (i : ℕ) (node : Node) → 5 ≤ i → i < 7 → Knows ⊥ (get_or (hosts_up_to 4 ++ servers_up_to 2) i node) → ⊥
last_two zero node le lt knows = absurd (omega (arith, le))
last_two (suc zero) node le lt knows = absurd (omega (arith, le))
last_two (suc (suc zero)) node le lt knows = absurd (omega (arith, le))
last_two (suc (suc (suc zero))) node le lt knows = absurd (omega (arith, le))
last_two (suc (suc (suc (suc zero)))) node le lt knows = absurd (omega (arith, le))
last_two (suc (suc (suc (suc (suc zero))))) node le lt knows = knows
last_two (suc (suc (suc (suc (suc (suc zero)))))) node le lt knows = knows
last_two (suc (suc (suc (suc (suc (suc (suc i))))))) node le lt knows = absurd (omega (arith, lt))

nodes_are : (script : Script) → length script.roster.hosts ≡ 4 → script.servers ≡ 2
    → nodes_of script ≡ hosts_up_to 4 ++ servers_up_to 2
nodes_are script hosts servers =
    ap (λ n. hosts_up_to n ++ servers_up_to script.servers) hosts ∙ ap (λ n. hosts_up_to 4 ++ servers_up_to n) servers

-- stubs can be the nodes of such a script
pub may_take_part : (script : Script) (start : Tree) (epochs : List ℕ) (stubs : List Stub)
    → length script.roster.hosts ≡ 4 → script.servers ≡ 2 → script.setup ≡ [] → script.lines ≡ []
    → length stubs ≡ 7 → RestServers stubs → AreNodes StandsIdle (beginning script start epochs) stubs
may_take_part script start epochs stubs hosts servers setup lines many rest = record {
  count = many ∙ sym (seven script hosts servers);
  fresh = (λ i n node lt. record {
    nothing = refl;
    none = refl;
    setup = setup;
    lines = lines;
    server = (λ rests knows. last_two i node (rest.places i n lt rests) (subst (λ k. i < k) many lt)
        (subst (λ l. Knows ⊥ (get_or l i node)) (nodes_are script hosts servers) knows));
  });
}

pub can_start : (script : Script) (start : Tree) (epochs : List ℕ) → IsValid start → start.roster ≡ script.roster
    → length epochs ≡ 2 → length script.roster.capacity ≡ 2 → script.servers ≡ 2 → length script.roster.hosts ≡ 4
    → CanStart script start epochs
can_start script start epochs valid roster counted capacity servers hosts = record {
  valid = valid;
  roster = roster;
  counted = counted ∙ sym capacity;
  servers = servers ∙ sym capacity;
  hosts_few = omega arith;
  servers_few = omega arith;
}
