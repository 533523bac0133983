-- One node and others.
use Rattle.std.proofs.Common.{◌≡◌, true, refl, ap, eq-eqb, eqb-true}
use Rattle.base_types.specs.declared.ids.Node.{Node}
use Rattle.base_types.specs.declared.ids.Node.TheVariants.{Host, Server}
use Rattle.script_lines.specs.Sound.{same_node}

pub node_self : (n : Node) → same_node n n ≡ true
node_self (Host h) = eq-eqb h.0 h.0 refl
node_self (Server v) = eq-eqb v.0 v.0 refl

pub node_same : (a b : Node) → same_node a b ≡ true → a ≡ b
node_same (Host h) (Host g) e = ap (λ n. Host (record { 0 = n })) (eqb-true h.0 g.0 e)
node_same (Host h) (Server v) e = absurd (cc)
node_same (Server v) (Host h) e = absurd (cc)
node_same (Server v) (Server w) e = ap (λ n. Server (record { 0 = n })) (eqb-true v.0 w.0 e)
