-- The kinds of records: their numbers, the order of their groups, the form of lock that has them, their lengths.
use Rattle.std.specs.Prelude.{◌≡◌, ℕ, Bool, true, cond, Some, None, MatchResult, Option, Result, ◌==◌, nat_le}
use Rattle.items.specs.declared.kind.Kind.{Kind}
use Rattle.items.specs.declared.kind.UnknownKind.{UnknownKind}
use Rattle.items.specs.declared.kind.Form.{Form}
use Rattle.items.specs.declared.kind.Form.TheVariants.{Facts, Listed}
use Rattle.items.specs.declared.kind.UnknownForm.{UnknownForm}
use Rattle.items.specs.declared.kind.Kind.TheVariants.{Head, Fact, Act, Rule, Change, State, Move, Mark, Allowance, Routine}

abbrev pub kind_number : Kind → ℕ
kind_number Head = 0x0001
kind_number Fact = 0x0002
kind_number Act = 0x0003
kind_number Rule = 0x0010
kind_number Change = 0x0011
kind_number State = 0x0020
kind_number Move = 0x0021
kind_number Mark = 0x0031
kind_number Allowance = 0x0032
kind_number Routine = 0x0040

-- the kind of a number, where it has one
abbrev pub kind_of : ℕ → Option Kind
kind_of n =
    cond (n == 0x0001) (Some Head) (cond (n == 0x0002) (Some Fact) (cond (n == 0x0003) (Some Act)
    (cond (n == 0x0010) (Some Rule) (cond (n == 0x0011) (Some Change) (cond (n == 0x0020) (Some State)
    (cond (n == 0x0021) (Some Move) (cond (n == 0x0031) (Some Mark) (cond (n == 0x0032) (Some Allowance)
    (cond (n == 0x0040) (Some Routine) None)))))))))

abbrev pub NamesKind : ℕ → Result Kind UnknownKind → Type 0
NamesKind n r = MatchResult r (λ k. kind_of n ≡ Some k) (λ _. kind_of n ≡ None)

-- the form of a number, where it has one
abbrev pub form_of : ℕ → Option Form
form_of n = cond (n == 1) (Some Facts) (cond (n == 2) (Some Listed) None)

abbrev pub NamesForm : ℕ → Result Form UnknownForm → Type 0
NamesForm n r = MatchResult r (λ f. form_of n ≡ Some f) (λ _. form_of n ≡ None)

-- the groups come in this order: head, facts, acts, model, layers, routine
abbrev pub group_of : Kind → ℕ
group_of Head = 0
group_of Fact = 1
group_of Act = 2
group_of Rule = 3
group_of Change = 3
group_of State = 3
group_of Move = 3
group_of Mark = 4
group_of Allowance = 4
group_of Routine = 5

-- rules and changes are of form 1, states and moves of form 2, and the others of both
abbrev pub of_form : Kind → ℕ → Bool
of_form Head form = true
of_form Fact form = true
of_form Act form = true
of_form Rule form = form == 1
of_form Change form = form == 1
of_form State form = form == 2
of_form Move form = form == 2
of_form Mark form = true
of_form Allowance form = true
of_form Routine form = true

-- the form that alone has the kind, if one has not
abbrev pub form_alone : Kind → Option Form
form_alone Head = None
form_alone Fact = None
form_alone Act = None
form_alone Rule = Some Facts
form_alone Change = Some Facts
form_alone State = Some Listed
form_alone Move = Some Listed
form_alone Mark = None
form_alone Allowance = None
form_alone Routine = None

-- the longest routine text
abbrev pub most_text : ℕ
most_text = 8192

-- a name may have any length here; that it is a name is tested later
abbrev pub fits_length : Kind → ℕ → Bool
fits_length Head n = n == 7
fits_length Fact n = true
fits_length Act n = true
fits_length Rule n = n == 5
fits_length Change n = n == 10
fits_length State n = n == 2
fits_length Move n = n == 6
fits_length Mark n = n == 2
fits_length Allowance n = n == 1
fits_length Routine n = nat_le n most_text
