use Rattle.std.proofs.Common.{◌≡◌, codes, rules}
use Rattle.std.proofs.lemmas.Slice.Eq.{text_from_reads}
use Rattle.script.proofs.Keywords.{no_keyword}
use Rattle.script.proofs.forms.read_form.Goals as goal
use Rattle.script.proofs.forms.read_form.Goals.{in_default-via-then-keyword-lt3, in_default-via-else-keyword-lt3+then-keyword-lt4+in-97+in-100+in_default-1, in_default-via-else-keyword-lt3+then-keyword-lt4+in-97+in_default-1, in_default-via-else-keyword-lt3+then-keyword-lt4+in_default-1, in_default-via-else-keyword-lt3+else-keyword-lt4+then-keyword-lt5+in-111+in-112+in-101+in_default-1, in_default-via-else-keyword-lt3+else-keyword-lt4+then-keyword-lt5+in-111+in-112+in_default-1, in_default-via-else-keyword-lt3+else-keyword-lt4+then-keyword-lt5+in-111+in_default-1, in_default-via-else-keyword-lt3+else-keyword-lt4+then-keyword-lt5+in-108+in-111+in-97+in_default-1, in_default-via-else-keyword-lt3+else-keyword-lt4+then-keyword-lt5+in-108+in-111+in_default-1, in_default-via-else-keyword-lt3+else-keyword-lt4+then-keyword-lt5+in-108+in_default-1, in_default-via-else-keyword-lt3+else-keyword-lt4+then-keyword-lt5+in_default-1, in_default-via-else-keyword-lt3+else-keyword-lt4+else-keyword-lt5+then-keyword-lt6, in_default-via-else-keyword-lt3+else-keyword-lt4+else-keyword-lt5+else-keyword-lt6+then-keyword-lt7+in-114+in-101+in-116+in-105+in-109+in_default-1, in_default-via-else-keyword-lt3+else-keyword-lt4+else-keyword-lt5+else-keyword-lt6+then-keyword-lt7+in-114+in-101+in-116+in-105+in_default-1, in_default-via-else-keyword-lt3+else-keyword-lt4+else-keyword-lt5+else-keyword-lt6+then-keyword-lt7+in-114+in-101+in-116+in_default-1, in_default-via-else-keyword-lt3+else-keyword-lt4+else-keyword-lt5+else-keyword-lt6+then-keyword-lt7+in-114+in-101+in_default-1, in_default-via-else-keyword-lt3+else-keyword-lt4+else-keyword-lt5+else-keyword-lt6+then-keyword-lt7+in-114+in_default-1, in_default-via-else-keyword-lt3+else-keyword-lt4+else-keyword-lt5+else-keyword-lt6+then-keyword-lt7+in_default-1, in_default-via-else-keyword-lt3+else-keyword-lt4+else-keyword-lt5+else-keyword-lt6+else-keyword-lt7+then-keyword-lt8+in-115+in-117+in-115-keyword-19+in-112+in-101+in-110+in_default-1, in_default-via-else-keyword-lt3+else-keyword-lt4+else-keyword-lt5+else-keyword-lt6+else-keyword-lt7+then-keyword-lt8+in-115+in-117+in-115-keyword-19+in-112+in-101+in_default-1, in_default-via-else-keyword-lt3+else-keyword-lt4+else-keyword-lt5+else-keyword-lt6+else-keyword-lt7+then-keyword-lt8+in-115+in-117+in-115-keyword-19+in-112+in_default-1, in_default-via-else-keyword-lt3+else-keyword-lt4+else-keyword-lt5+else-keyword-lt6+else-keyword-lt7+then-keyword-lt8+in-115+in-117+in-115-keyword-19+in_default-1, in_default-via-else-keyword-lt3+else-keyword-lt4+else-keyword-lt5+else-keyword-lt6+else-keyword-lt7+then-keyword-lt8+in-115+in-117+in_default-1, in_default-via-else-keyword-lt3+else-keyword-lt4+else-keyword-lt5+else-keyword-lt6+else-keyword-lt7+then-keyword-lt8+in-115+in_default-1, in_default-via-else-keyword-lt3+else-keyword-lt4+else-keyword-lt5+else-keyword-lt6+else-keyword-lt7+then-keyword-lt8+in-114+in-101+in-115+in-116+in-111+in-114-keyword-28+in_default-1, in_default-via-else-keyword-lt3+else-keyword-lt4+else-keyword-lt5+else-keyword-lt6+else-keyword-lt7+then-keyword-lt8+in-114+in-101+in-115+in-116+in-111+in_default-1, in_default-via-else-keyword-lt3+else-keyword-lt4+else-keyword-lt5+else-keyword-lt6+else-keyword-lt7+then-keyword-lt8+in-114+in-101+in-115+in-116+in_default-1, in_default-via-else-keyword-lt3+else-keyword-lt4+else-keyword-lt5+else-keyword-lt6+else-keyword-lt7+then-keyword-lt8+in-114+in-101+in-115+in_default-1, in_default-via-else-keyword-lt3+else-keyword-lt4+else-keyword-lt5+else-keyword-lt6+else-keyword-lt7+then-keyword-lt8+in-114+in-101+in_default-1, in_default-via-else-keyword-lt3+else-keyword-lt4+else-keyword-lt5+else-keyword-lt6+else-keyword-lt7+then-keyword-lt8+in-114+in_default-1, in_default-via-else-keyword-lt3+else-keyword-lt4+else-keyword-lt5+else-keyword-lt6+else-keyword-lt7+then-keyword-lt8+in-100+in-105+in-115+in-109+in-105-keyword-33+in-115-keyword-34+in_default-1, in_default-via-else-keyword-lt3+else-keyword-lt4+else-keyword-lt5+else-keyword-lt6+else-keyword-lt7+then-keyword-lt8+in-100+in-105+in-115+in-109+in-105-keyword-33+in_default-1, in_default-via-else-keyword-lt3+else-keyword-lt4+else-keyword-lt5+else-keyword-lt6+else-keyword-lt7+then-keyword-lt8+in-100+in-105+in-115+in-109+in_default-1, in_default-via-else-keyword-lt3+else-keyword-lt4+else-keyword-lt5+else-keyword-lt6+else-keyword-lt7+then-keyword-lt8+in-100+in-105+in-115+in_default-1, in_default-via-else-keyword-lt3+else-keyword-lt4+else-keyword-lt5+else-keyword-lt6+else-keyword-lt7+then-keyword-lt8+in-100+in-105+in_default-1, in_default-via-else-keyword-lt3+else-keyword-lt4+else-keyword-lt5+else-keyword-lt6+else-keyword-lt7+then-keyword-lt8+in-100+in_default-1, in_default-via-else-keyword-lt3+else-keyword-lt4+else-keyword-lt5+else-keyword-lt6+else-keyword-lt7+then-keyword-lt8+in_default-1, in_default-via-else-keyword-lt3+else-keyword-lt4+else-keyword-lt5+else-keyword-lt6+else-keyword-lt7+else-keyword-lt8+then-keyword-lt9+in-119+in-105+in-116+in-104+in-100+in-114+in-97+in_default-1, in_default-via-else-keyword-lt3+else-keyword-lt4+else-keyword-lt5+else-keyword-lt6+else-keyword-lt7+else-keyword-lt8+then-keyword-lt9+in-119+in-105+in-116+in-104+in-100+in-114+in_default-1, in_default-via-else-keyword-lt3+else-keyword-lt4+else-keyword-lt5+else-keyword-lt6+else-keyword-lt7+else-keyword-lt8+then-keyword-lt9+in-119+in-105+in-116+in-104+in-100+in_default-1, in_default-via-else-keyword-lt3+else-keyword-lt4+else-keyword-lt5+else-keyword-lt6+else-keyword-lt7+else-keyword-lt8+then-keyword-lt9+in-119+in-105+in-116+in-104+in_default-1, in_default-via-else-keyword-lt3+else-keyword-lt4+else-keyword-lt5+else-keyword-lt6+else-keyword-lt7+else-keyword-lt8+then-keyword-lt9+in-119+in-105+in-116+in_default-1, in_default-via-else-keyword-lt3+else-keyword-lt4+else-keyword-lt5+else-keyword-lt6+else-keyword-lt7+else-keyword-lt8+then-keyword-lt9+in-119+in-105+in_default-1, in_default-via-else-keyword-lt3+else-keyword-lt4+else-keyword-lt5+else-keyword-lt6+else-keyword-lt7+else-keyword-lt8+then-keyword-lt9+in-119+in_default-1, in_default-via-else-keyword-lt3+else-keyword-lt4+else-keyword-lt5+else-keyword-lt6+else-keyword-lt7+else-keyword-lt8+then-keyword-lt9+in_default-1, in_default-via-else-keyword-lt3+else-keyword-lt4+else-keyword-lt5+else-keyword-lt6+else-keyword-lt7+else-keyword-lt8+else-keyword-lt9}

pub returns-in-retime : goal.returns-in-retime
returns-in-retime c = let is : c.args.keyword.now ≡ codes "retime" = text_from_reads _ _ (search rules) (search rules) in search rules

pub returns-in-withdraw : goal.returns-in-withdraw
returns-in-withdraw c = let is : c.args.keyword.now ≡ codes "withdraw" = text_from_reads _ _ (search rules) (search rules) in search rules

pub returns-in-suspend : goal.returns-in-suspend
returns-in-suspend c = let is : c.args.keyword.now ≡ codes "suspend" = text_from_reads _ _ (search rules) (search rules) in search rules

pub returns-in-restore : goal.returns-in-restore
returns-in-restore c = let is : c.args.keyword.now ≡ codes "restore" = text_from_reads _ _ (search rules) (search rules) in search rules

pub returns-in-dismiss : goal.returns-in-dismiss
returns-in-dismiss c = let is : c.args.keyword.now ≡ codes "dismiss" = text_from_reads _ _ (search rules) (search rules) in search rules

pub returns-in_default : goal.returns-in_default
returns-in_default c = elim c.in_default.branch [ in_default-via-then-keyword-lt3 w ↦ search (rules, no_keyword) | in_default-via-else-keyword-lt3+then-keyword-lt4+in-97+in-100+in_default-1 w ↦ search (rules, no_keyword) | in_default-via-else-keyword-lt3+then-keyword-lt4+in-97+in_default-1 w ↦ search (rules, no_keyword) | in_default-via-else-keyword-lt3+then-keyword-lt4+in_default-1 w ↦ search (rules, no_keyword) | in_default-via-else-keyword-lt3+else-keyword-lt4+then-keyword-lt5+in-111+in-112+in-101+in_default-1 w ↦ search (rules, no_keyword) | in_default-via-else-keyword-lt3+else-keyword-lt4+then-keyword-lt5+in-111+in-112+in_default-1 w ↦ search (rules, no_keyword) | in_default-via-else-keyword-lt3+else-keyword-lt4+then-keyword-lt5+in-111+in_default-1 w ↦ search (rules, no_keyword) | in_default-via-else-keyword-lt3+else-keyword-lt4+then-keyword-lt5+in-108+in-111+in-97+in_default-1 w ↦ search (rules, no_keyword) | in_default-via-else-keyword-lt3+else-keyword-lt4+then-keyword-lt5+in-108+in-111+in_default-1 w ↦ search (rules, no_keyword) | in_default-via-else-keyword-lt3+else-keyword-lt4+then-keyword-lt5+in-108+in_default-1 w ↦ search (rules, no_keyword) | in_default-via-else-keyword-lt3+else-keyword-lt4+then-keyword-lt5+in_default-1 w ↦ search (rules, no_keyword) | in_default-via-else-keyword-lt3+else-keyword-lt4+else-keyword-lt5+then-keyword-lt6 w ↦ search (rules, no_keyword) | in_default-via-else-keyword-lt3+else-keyword-lt4+else-keyword-lt5+else-keyword-lt6+then-keyword-lt7+in-114+in-101+in-116+in-105+in-109+in_default-1 w ↦ search (rules, no_keyword) | in_default-via-else-keyword-lt3+else-keyword-lt4+else-keyword-lt5+else-keyword-lt6+then-keyword-lt7+in-114+in-101+in-116+in-105+in_default-1 w ↦ search (rules, no_keyword) | in_default-via-else-keyword-lt3+else-keyword-lt4+else-keyword-lt5+else-keyword-lt6+then-keyword-lt7+in-114+in-101+in-116+in_default-1 w ↦ search (rules, no_keyword) | in_default-via-else-keyword-lt3+else-keyword-lt4+else-keyword-lt5+else-keyword-lt6+then-keyword-lt7+in-114+in-101+in_default-1 w ↦ search (rules, no_keyword) | in_default-via-else-keyword-lt3+else-keyword-lt4+else-keyword-lt5+else-keyword-lt6+then-keyword-lt7+in-114+in_default-1 w ↦ search (rules, no_keyword) | in_default-via-else-keyword-lt3+else-keyword-lt4+else-keyword-lt5+else-keyword-lt6+then-keyword-lt7+in_default-1 w ↦ search (rules, no_keyword) | in_default-via-else-keyword-lt3+else-keyword-lt4+else-keyword-lt5+else-keyword-lt6+else-keyword-lt7+then-keyword-lt8+in-115+in-117+in-115-keyword-19+in-112+in-101+in-110+in_default-1 w ↦ search (rules, no_keyword) | in_default-via-else-keyword-lt3+else-keyword-lt4+else-keyword-lt5+else-keyword-lt6+else-keyword-lt7+then-keyword-lt8+in-115+in-117+in-115-keyword-19+in-112+in-101+in_default-1 w ↦ search (rules, no_keyword) | in_default-via-else-keyword-lt3+else-keyword-lt4+else-keyword-lt5+else-keyword-lt6+else-keyword-lt7+then-keyword-lt8+in-115+in-117+in-115-keyword-19+in-112+in_default-1 w ↦ search (rules, no_keyword) | in_default-via-else-keyword-lt3+else-keyword-lt4+else-keyword-lt5+else-keyword-lt6+else-keyword-lt7+then-keyword-lt8+in-115+in-117+in-115-keyword-19+in_default-1 w ↦ search (rules, no_keyword) | in_default-via-else-keyword-lt3+else-keyword-lt4+else-keyword-lt5+else-keyword-lt6+else-keyword-lt7+then-keyword-lt8+in-115+in-117+in_default-1 w ↦ search (rules, no_keyword) | in_default-via-else-keyword-lt3+else-keyword-lt4+else-keyword-lt5+else-keyword-lt6+else-keyword-lt7+then-keyword-lt8+in-115+in_default-1 w ↦ search (rules, no_keyword) | in_default-via-else-keyword-lt3+else-keyword-lt4+else-keyword-lt5+else-keyword-lt6+else-keyword-lt7+then-keyword-lt8+in-114+in-101+in-115+in-116+in-111+in-114-keyword-28+in_default-1 w ↦ search (rules, no_keyword) | in_default-via-else-keyword-lt3+else-keyword-lt4+else-keyword-lt5+else-keyword-lt6+else-keyword-lt7+then-keyword-lt8+in-114+in-101+in-115+in-116+in-111+in_default-1 w ↦ search (rules, no_keyword) | in_default-via-else-keyword-lt3+else-keyword-lt4+else-keyword-lt5+else-keyword-lt6+else-keyword-lt7+then-keyword-lt8+in-114+in-101+in-115+in-116+in_default-1 w ↦ search (rules, no_keyword) | in_default-via-else-keyword-lt3+else-keyword-lt4+else-keyword-lt5+else-keyword-lt6+else-keyword-lt7+then-keyword-lt8+in-114+in-101+in-115+in_default-1 w ↦ search (rules, no_keyword) | in_default-via-else-keyword-lt3+else-keyword-lt4+else-keyword-lt5+else-keyword-lt6+else-keyword-lt7+then-keyword-lt8+in-114+in-101+in_default-1 w ↦ search (rules, no_keyword) | in_default-via-else-keyword-lt3+else-keyword-lt4+else-keyword-lt5+else-keyword-lt6+else-keyword-lt7+then-keyword-lt8+in-114+in_default-1 w ↦ search (rules, no_keyword) | in_default-via-else-keyword-lt3+else-keyword-lt4+else-keyword-lt5+else-keyword-lt6+else-keyword-lt7+then-keyword-lt8+in-100+in-105+in-115+in-109+in-105-keyword-33+in-115-keyword-34+in_default-1 w ↦ search (rules, no_keyword) | in_default-via-else-keyword-lt3+else-keyword-lt4+else-keyword-lt5+else-keyword-lt6+else-keyword-lt7+then-keyword-lt8+in-100+in-105+in-115+in-109+in-105-keyword-33+in_default-1 w ↦ search (rules, no_keyword) | in_default-via-else-keyword-lt3+else-keyword-lt4+else-keyword-lt5+else-keyword-lt6+else-keyword-lt7+then-keyword-lt8+in-100+in-105+in-115+in-109+in_default-1 w ↦ search (rules, no_keyword) | in_default-via-else-keyword-lt3+else-keyword-lt4+else-keyword-lt5+else-keyword-lt6+else-keyword-lt7+then-keyword-lt8+in-100+in-105+in-115+in_default-1 w ↦ search (rules, no_keyword) | in_default-via-else-keyword-lt3+else-keyword-lt4+else-keyword-lt5+else-keyword-lt6+else-keyword-lt7+then-keyword-lt8+in-100+in-105+in_default-1 w ↦ search (rules, no_keyword) | in_default-via-else-keyword-lt3+else-keyword-lt4+else-keyword-lt5+else-keyword-lt6+else-keyword-lt7+then-keyword-lt8+in-100+in_default-1 w ↦ search (rules, no_keyword) | in_default-via-else-keyword-lt3+else-keyword-lt4+else-keyword-lt5+else-keyword-lt6+else-keyword-lt7+then-keyword-lt8+in_default-1 w ↦ search (rules, no_keyword) | in_default-via-else-keyword-lt3+else-keyword-lt4+else-keyword-lt5+else-keyword-lt6+else-keyword-lt7+else-keyword-lt8+then-keyword-lt9+in-119+in-105+in-116+in-104+in-100+in-114+in-97+in_default-1 w ↦ search (rules, no_keyword) | in_default-via-else-keyword-lt3+else-keyword-lt4+else-keyword-lt5+else-keyword-lt6+else-keyword-lt7+else-keyword-lt8+then-keyword-lt9+in-119+in-105+in-116+in-104+in-100+in-114+in_default-1 w ↦ search (rules, no_keyword) | in_default-via-else-keyword-lt3+else-keyword-lt4+else-keyword-lt5+else-keyword-lt6+else-keyword-lt7+else-keyword-lt8+then-keyword-lt9+in-119+in-105+in-116+in-104+in-100+in_default-1 w ↦ search (rules, no_keyword) | in_default-via-else-keyword-lt3+else-keyword-lt4+else-keyword-lt5+else-keyword-lt6+else-keyword-lt7+else-keyword-lt8+then-keyword-lt9+in-119+in-105+in-116+in-104+in_default-1 w ↦ search (rules, no_keyword) | in_default-via-else-keyword-lt3+else-keyword-lt4+else-keyword-lt5+else-keyword-lt6+else-keyword-lt7+else-keyword-lt8+then-keyword-lt9+in-119+in-105+in-116+in_default-1 w ↦ search (rules, no_keyword) | in_default-via-else-keyword-lt3+else-keyword-lt4+else-keyword-lt5+else-keyword-lt6+else-keyword-lt7+else-keyword-lt8+then-keyword-lt9+in-119+in-105+in_default-1 w ↦ search (rules, no_keyword) | in_default-via-else-keyword-lt3+else-keyword-lt4+else-keyword-lt5+else-keyword-lt6+else-keyword-lt7+else-keyword-lt8+then-keyword-lt9+in-119+in_default-1 w ↦ search (rules, no_keyword) | in_default-via-else-keyword-lt3+else-keyword-lt4+else-keyword-lt5+else-keyword-lt6+else-keyword-lt7+else-keyword-lt8+then-keyword-lt9+in_default-1 w ↦ search (rules, no_keyword) | in_default-via-else-keyword-lt3+else-keyword-lt4+else-keyword-lt5+else-keyword-lt6+else-keyword-lt7+else-keyword-lt8+else-keyword-lt9 w ↦ search (rules, no_keyword) ]
