use Rattle.std.proofs.Common.{List, ap, subst, sym, true, ℕ, ◌∙◌, ◌≡◌}
use Rattle.base_types.specs.Name.{is_name}
use Rattle.message_parts.specs.Words.{spell_name}
use Rattle.host_tells.proofs.fitting.name_fits.Goals as goal

pub bytes_fit-requires : goal.bytes_fit-requires
bytes_fit-requires c =
    subst (λ (bytes : List ℕ). is_name bytes ≡ true) (sym c.as_bytes.ensures.value) c.as_bytes.ensures.name

pub returns : goal.returns
returns c = c.bytes_fit.ensures ∙ ap (λ (bytes : List ℕ). (spell_name bytes).fits) c.as_bytes.ensures.value
