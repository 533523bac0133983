-- What the board follows of each node's lines is how they have gone.
use Rattle.std.proofs.Common.{◌≡◌, suc, ◌+◌, Bool, true, false, not, cond, List, [], ◌∷◌, map, Option, Some, refl}
use Rattle.std.proofs.Common.{sym, ap, ◌∙◌, arith}
use Rattle.std.specs.Prelude.{slice_get}
use Rattle.std.specs.Option.{option_map}
use Rattle.base_types.specs.Lists.{changed_at}
use Rattle.base_types.specs.declared.ids.Node.{Node}
use Rattle.script_lines.specs.Sound.{same_node}
use Rattle.hub_board.specs.Follows.{place_of}
use Rattle.hub_board.specs.declared.follow.Follow.{Follow}
use Rattle.hub_laws.proofs.Nodes.{node_same, node_self}

abbrev is_of : Node → Follow → Bool
is_of node f = same_node f.node node

abbrev pub at : List Follow → Node → Option Follow
at follows node = slice_get follows (place_of follows node)

pub at_here : (f : Follow) (fs : List Follow) (n : Node) → same_node f.node n ≡ true → at (f ∷ fs) n ≡ Some f
at_here f fs n e = ap (λ b. slice_get (f ∷ fs) (cond (not b) (1 + place_of fs n) 0)) e

pub at_later : (f : Follow) (fs : List Follow) (n : Node) → same_node f.node n ≡ false → at (f ∷ fs) n ≡ at fs n
at_later f fs n e =
    let more : 1 + place_of fs n ≡ suc (place_of fs n) = omega arith in
    ap (λ b. slice_get (f ∷ fs) (cond (not b) (1 + place_of fs n) 0)) e ∙ ap (slice_get (f ∷ fs)) more

place_here : (f : Follow) (fs : List Follow) (n : Node) → same_node f.node n ≡ true → place_of (f ∷ fs) n ≡ 0
place_here f fs n e = ap (λ b. cond (not b) (1 + place_of fs n) 0) e

place_later : (f : Follow) (fs : List Follow) (n : Node) → same_node f.node n ≡ false → place_of (f ∷ fs) n ≡ suc
    (place_of fs n)
place_later f fs n e =
    let more : 1 + place_of fs n ≡ suc (place_of fs n) = omega arith in
    ap (λ b. cond (not b) (1 + place_of fs n) 0) e ∙ more

-- what is followed of a node where that of one was changed
module _ (change : Follow → Follow) (keeps : (f : Follow) → (change f).node ≡ f.node) (node : Node) where
  abbrev changed : List Follow → List Follow
  changed follows = changed_at follows (place_of follows node) change

  pub at_changed : (follows : List Follow) (n : Node)
      → at (changed follows) n ≡ cond (same_node node n) (option_map change (at follows n)) (at follows n)
  at_changed [] n = none (same_node node n)
    where
      none : (b : Bool) → at (changed []) n ≡ cond b (option_map change (at [] n)) (at [] n)
      none true = refl
      none false = refl
  at_changed (f ∷ fs) n = by_tests (same_node f.node node) refl (same_node f.node n) refl (at_changed fs n)
    where
      by_tests : (a : Bool) → same_node f.node node ≡ a → (b : Bool) → same_node f.node n ≡ b
          → at (changed fs) n ≡ cond (same_node node n) (option_map change (at fs n)) (at fs n)
          → at (changed (f ∷ fs)) n ≡ cond (same_node node n) (option_map change (at (f ∷ fs) n)) (at (f ∷ fs) n)
      by_tests true e b k again =
          let is = node_same f.node node e in
          let one : changed (f ∷ fs) ≡ change f ∷ fs = ap (λ p. changed_at (f ∷ fs) p change)
          (place_here f fs node e) in
          ap (λ l. at l n) one ∙ by_second b k
        where
          by_second : (b : Bool) → same_node f.node n ≡ b
              → at (change f ∷ fs) n ≡ cond (same_node node n) (option_map change (at (f ∷ fs) n)) (at (f ∷ fs) n)
          by_second true k =
              let is = node_same f.node node e in
              at_here (change f) fs n (ap (λ x. same_node x n) (keeps f) ∙ k)
              ∙ ap (option_map change) (sym (at_here f fs n k))
              ∙ ap (λ t. cond t (option_map change (at (f ∷ fs) n)) (at (f ∷ fs) n))
              (sym (ap (λ x. same_node x n) (sym is) ∙ k))
          by_second false k =
              let is = node_same f.node node e in
              at_later (change f) fs n (ap (λ x. same_node x n) (keeps f) ∙ k)
              ∙ sym (at_later f fs n k)
              ∙ ap (λ t. cond t (option_map change (at (f ∷ fs) n)) (at (f ∷ fs) n))
              (sym (ap (λ x. same_node x n) (sym is) ∙ k))
      by_tests false e b k again =
          let one : changed (f ∷ fs) ≡ f ∷ changed fs = ap (λ p. changed_at (f ∷ fs) p change)
          (place_later f fs node e) in
          ap (λ l. at l n) one ∙ by_second b k
        where
          by_second : (b : Bool) → same_node f.node n ≡ b
              → at (f ∷ changed fs) n ≡ cond (same_node node n) (option_map change (at (f ∷ fs) n)) (at (f ∷ fs) n)
          by_second true k =
              let is = node_same f.node n k in
              at_here f (changed fs) n k ∙ sym (at_here f fs n k)
              ∙ ap (λ t. cond t (option_map change (at (f ∷ fs) n)) (at (f ∷ fs) n)) (sym (other k))
            where
              other : same_node f.node n ≡ true → same_node node n ≡ false
              other h = by_test (same_node node n) refl
                where
                  by_test : (t : Bool) → same_node node n ≡ t → t ≡ false
                  by_test true j =
                      let clash : true ≡ false = sym (node_self node)
                      ∙ ap (λ x. same_node x node) (node_same node n j ∙ sym (node_same f.node n h)) ∙ e in absurd (cc)
                  by_test false j = refl
          by_second false k =
              at_later f (changed fs) n k ∙ again
              ∙ ap (λ o. cond (same_node node n) (option_map change o) o) (sym (at_later f fs n k))

-- the same where all are changed
module _ (change : Follow → Follow) (keeps : (f : Follow) → (change f).node ≡ f.node) where
  pub at_all : (follows : List Follow) (n : Node) → at (map change follows) n ≡ option_map change (at follows n)
  at_all [] n = refl
  at_all (f ∷ fs) n = by_test (same_node f.node n) refl (at_all fs n)
    where
      by_test : (b : Bool) → same_node f.node n ≡ b → at (map change fs) n ≡ option_map change (at fs n)
          → at (map change (f ∷ fs)) n ≡ option_map change (at (f ∷ fs) n)
      by_test true e again =
          at_here (change f) (map change fs) n (ap (λ x. same_node x n) (keeps f) ∙ e)
          ∙ ap (option_map change) (sym (at_here f fs n e))
      by_test false e again =
          at_later (change f) (map change fs) n (ap (λ x. same_node x n) (keeps f) ∙ e) ∙ again
          ∙ ap (option_map change) (sym (at_later f fs n e))
