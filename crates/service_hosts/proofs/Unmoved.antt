-- Hosts and servers can run a script that moves nothing, from the tree of blank disks.
use Rattle.std.proofs.Common.{◌≡◌, ◌∙◌, ◌&&◌, ◌==◌, ◌||◌, Bool, List, [], ◌∷◌, false, not, ap, inl, inr, length, refl}
use Rattle.std.specs.List.{list_all, list_any}
use Rattle.script_lines.specs.declared.script.Line.{Line}
use Rattle.run_rules.specs.Past.{In}
use Rattle.service_hosts.specs.Homes.{UnmovedMayHost, is_home, is_move}

none_in : {A : Type 0} (p : A → Bool) (xs : List A) → ((x : A) → In x xs → p x ≡ false) → list_any p xs ≡ false
none_in p [] f = refl
none_in p (x ∷ xs) f =
    ap (λ (b : Bool). b || list_any p xs) (f x (inl refl)) ∙ none_in p xs (λ y i. f y (inr i))

pub unmoved_may_host : UnmovedMayHost
unmoved_may_host script start none no_filesets no_away =
    ap (λ (b : Bool). not b && (list_all is_home start.filesets && (length start.away == 0)))
    (none_in (λ (line : Line). is_move line.deed) script.lines none)
    ∙ ap (λ l. list_all is_home l && (length start.away == 0)) no_filesets
    ∙ ap (λ l. length l == 0) no_away
