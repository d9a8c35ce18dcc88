-- What begins a file: the head of its first record.
use Rattle.std.specs.Prelude.{◌≡◌, ℕ, List, [], ◌∷◌, Ok, None}
use Rattle.std.proofs.Common.{ap, ◌∙◌}
use Rattle.records.specs.Split.{front}
use Rattle.records.specs.Split.Front.{whole}
use Rattle.items.specs.declared.item.Header.{Header}
use Rattle.items.specs.Placed.{opened}
use Rattle.items.specs.Ranges.{head_field}
use Rattle.model.specs.Weigh.{begin, begin_at, begun, opening_as, opening_field}

pub begins_with : (file : List ℕ) (kind : ℕ) (body rest : List ℕ) (h : Header) →
    front file ≡ whole kind body rest → opened 0 kind body ≡ Ok h → head_field h ≡ None → begin file ≡ Ok (h, rest)
begins_with [] kind body rest h split opens fits = absurd (cc)
begins_with (b ∷ bytes) kind body rest h split opens fits =
    ap begin_at split ∙ (ap (λ r. begun (opening_as 0 r) rest) opens ∙ ap (λ o. begun (opening_field o 0 h) rest) fits)
