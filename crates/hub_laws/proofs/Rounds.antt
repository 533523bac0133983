-- Steps so far, of all nodes and of one.
use Rattle.std.proofs.Common.{◌≡◌, ⊎_elim, inl, inr, ℕ, ◌+◌, ◌≤◌, Bool, true, false, ◌&&◌, cond, List, [], ◌∷◌, ◌++◌}
use Rattle.std.proofs.Common.{filter, refl, sym, ap, ◌∙◌, subst, arith, append_assoc}
use Rattle.std.specs.List.{count_by}
use Rattle.std.proofs.lemmas.List.Sums.{sum_by-cons}
use Rattle.base_types.specs.declared.ids.Node.{Node}
use Rattle.message_types.specs.declared.message.Message.{Message}
use Rattle.script_lines.specs.Sound.{same_node}
use Rattle.run_rules.specs.Past.{In, appended}
use Rattle.run_rules.specs.Plans.{receiver}
use Rattle.run_rules.specs.declared.step.Step.{Step}
use Rattle.hub_laws.specs.Keeping.{is_lapse, lapses_taken, message_of, messages_taken}
use Rattle.hub_laws.specs.Taking.{Holds, Embeds}
use Rattle.hub_laws.proofs.Embeds.{end}
use Rattle.hub_laws.proofs.Nodes.{node_same, node_self}

module _ {A : Type 0} (f : A → Bool) where
  -- a test keeps each, or none
  abbrev pub AllPass : List A → Type 0
  AllPass [] = Unit {0}
  AllPass (x ∷ xs) = (f x ≡ true) × AllPass xs

  abbrev pub AllFail : List A → Type 0
  AllFail [] = Unit {0}
  AllFail (x ∷ xs) = (f x ≡ false) × AllFail xs

  pub kept_front : (xs ys : List A) → AllPass xs → filter f (xs ++ ys) ≡ xs ++ filter f ys
  kept_front [] ys h = refl
  kept_front (x ∷ xs) ys h =
      ap (λ b. cond b (x ∷ filter f (xs ++ ys)) (filter f (xs ++ ys))) h.0 ∙ ap (λ l. x ∷ l) (kept_front xs ys h.1)

  pub lost_front : (xs ys : List A) → AllFail xs → filter f (xs ++ ys) ≡ filter f ys
  lost_front [] ys h = refl
  lost_front (x ∷ xs) ys h =
      ap (λ b. cond b (x ∷ filter f (xs ++ ys)) (filter f (xs ++ ys))) h.0 ∙ lost_front xs ys h.1

  pub pass_append : (xs ys : List A) → AllPass xs → AllPass ys → AllPass (xs ++ ys)
  pass_append [] ys h k = k
  pass_append (x ∷ xs) ys h k = (h.0, pass_append xs ys h.1 k)

  pub pass_front : (xs ys : List A) → AllPass (xs ++ ys) → AllPass xs
  pass_front [] ys h = tt
  pass_front (x ∷ xs) ys h = (h.0, pass_front xs ys h.1)

  pub pass_back : (xs ys : List A) → AllPass (xs ++ ys) → AllPass ys
  pass_back [] ys h = h
  pass_back (x ∷ xs) ys h = pass_back xs ys h.1

  pass_held : (x : A) (ys rest : List A) → Holds x ys rest → AllPass ys → (f x ≡ true) × AllPass rest
  pass_held x [] rest h k = absurd h
  pass_held x (y ∷ ys) rest h k = ⊎_elim
      (λ (u : (x ≡ y) × (rest ≡ ys)). (ap f u.0 ∙ k.0, subst AllPass (sym u.1) k.1))
      (λ (u : (r : List A) × (rest ≡ y ∷ r) × Holds x ys r).
      let i = pass_held x ys u.0 u.2 k.1 in (i.0, subst AllPass (sym u.1) (k.0, i.1)))
      h

  -- what is taken out of such ones is so
  pub pass_part : (xs ys : List A) → Embeds xs ys → AllPass ys → AllPass xs
  pass_part [] ys e k = tt
  pass_part (x ∷ xs) ys e k = let h = pass_held x ys e.0 e.1 k in (h.0, pass_part xs e.0 e.2 h.1)

-- the causes of earlier steps stand behind those of later ones
pub taken_end : (xs past : List Step)
    → (front : List Message) × (messages_taken (appended xs past) ≡ front ++ messages_taken past)
taken_end [] past = ([], refl)
taken_end (x ∷ xs) past =
    let i = taken_end xs (x ∷ past) in
    (i.0 ++ message_of x.cause, i.1 ∙ sym (append_assoc i.0 (message_of x.cause) (messages_taken past)))

pub taken_part : (xs past : List Step) (ys : List Message) → Embeds (messages_taken (appended xs past)) ys
    → Embeds (messages_taken past) ys
taken_part xs past ys e =
    let t = taken_end xs past in end t.0 (messages_taken past) ys (subst (λ l. Embeds l ys) t.1 e)

pub lapses_end : (xs past : List Step) → lapses_taken past ≤ lapses_taken (appended xs past)
lapses_end [] past = omega arith
lapses_end (x ∷ xs) past = let i = lapses_end xs (x ∷ past) in omega arith

-- whether a message is for a node
abbrev pub is_to : Node → Message → Bool
is_to node m = same_node (receiver m) node

-- steps whose causes are for a node, beside that node's own
pub mine_more : (r : Node) (xs past own : List Step) → filter (is_to r) (messages_taken past) ≡ messages_taken own
    → AllPass (is_to r) (messages_taken (appended xs own))
    → filter (is_to r) (messages_taken (appended xs past)) ≡ messages_taken (appended xs own)
mine_more r [] past own e h = e
mine_more r (x ∷ xs) past own e h =
    let t = taken_end xs (x ∷ own) in
    let all : AllPass (is_to r) (message_of x.cause ++ messages_taken own) =
    pass_back (is_to r) t.0 (message_of x.cause ++ messages_taken own) (subst (AllPass (is_to r)) t.1 h) in
    let one = pass_front (is_to r) (message_of x.cause) (messages_taken own) all in
    mine_more r xs (x ∷ past) (x ∷ own)
    (kept_front (is_to r) (message_of x.cause) (messages_taken past) one ∙ ap (λ l. message_of x.cause ++ l) e) h

-- what is for one node isn't for another
apart : (r n : Node) (ms : List Message) → same_node r n ≡ false → AllPass (is_to r) ms → AllFail (is_to n) ms
apart r n [] e h = tt
apart r n (m ∷ ms) e h =
    (ap (λ x. same_node x n) (node_same (receiver m) r h.0) ∙ e, apart r n ms e h.1)

pub others_more : (r n : Node) (xs past own : List Step) → same_node r n ≡ false
    → AllPass (is_to r) (messages_taken (appended xs own))
    → filter (is_to n) (messages_taken (appended xs past)) ≡ filter (is_to n) (messages_taken past)
others_more r n [] past own e h = refl
others_more r n (x ∷ xs) past own e h =
    let t = taken_end xs (x ∷ own) in
    let all : AllPass (is_to r) (message_of x.cause ++ messages_taken own) =
    pass_back (is_to r) t.0 (message_of x.cause ++ messages_taken own) (subst (AllPass (is_to r)) t.1 h) in
    let one = pass_front (is_to r) (message_of x.cause) (messages_taken own) all in
    others_more r n xs (x ∷ past) (x ∷ own) e h
    ∙ lost_front (is_to n) (message_of x.cause) (messages_taken past) (apart r n (message_of x.cause) e one)

-- lapse steps of a node
abbrev pub lapses_of : Node → List Step → ℕ
lapses_of n past = count_by (λ (s : Step). same_node s.node n && is_lapse s.cause) past

pub lapses_mine : (r : Node) (xs past own : List Step) → ((s : Step) → In s xs → s.node ≡ r)
    → lapses_of r past ≡ lapses_taken own → lapses_of r (appended xs past) ≡ lapses_taken (appended xs own)
lapses_mine r [] past own mine e = e
lapses_mine r (x ∷ xs) past own mine e =
    let node = mine x (inl refl) in
    let test : (same_node x.node r && is_lapse x.cause) ≡ is_lapse x.cause =
    ap (λ n. same_node n r && is_lapse x.cause) node ∙ ap (λ b. b && is_lapse x.cause) (node_self r) in
    lapses_mine r xs (x ∷ past) (x ∷ own) (λ s i. mine s (inr i))
    (sum_by-cons (λ (s : Step). cond (same_node s.node r && is_lapse s.cause) 1 0) x past
    ∙ ap (λ b. cond b 1 0 + lapses_of r past) test ∙ ap (λ k. cond (is_lapse x.cause) 1 0 + k) e)

pub lapses_others : (r n : Node) (xs past : List Step) → ((s : Step) → In s xs → s.node ≡ r)
    → same_node r n ≡ false → lapses_of n (appended xs past) ≡ lapses_of n past
lapses_others r n [] past mine e = refl
lapses_others r n (x ∷ xs) past mine e =
    let node = mine x (inl refl) in
    let test : (same_node x.node n && is_lapse x.cause) ≡ false =
    ap (λ m. same_node m n && is_lapse x.cause) node ∙ ap (λ b. b && is_lapse x.cause) e in
    lapses_others r n xs (x ∷ past) (λ s i. mine s (inr i)) e
    ∙ sum_by-cons (λ (s : Step). cond (same_node s.node n && is_lapse s.cause) 1 0) x past
    ∙ ap (λ b. cond b 1 0 + lapses_of n past) test
    ∙ (let none : 0 + lapses_of n past ≡ lapses_of n past = omega arith in none)
