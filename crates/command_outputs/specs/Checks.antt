-- What a check of a site tells: the fault of each manifest that has one, and how many manifests and faults there are.
use Rattle.std.specs.Prelude.{ℕ, List, [], ◌∷◌, ◌++◌, map, length, Result, Ok, Err, codes, decimal}
use Rattle.pp_parser.specs.Manifest.{file_of}
use Rattle.pp_tree.specs.declared.file.File.{File}
use Rattle.pp_values.specs.declared.fault.Fault.{Fault}
use Rattle.site_bundle.specs.SiteView.{Filed, SiteView}
use Rattle.site_docs.specs.FaultText.{fault_text}
use Rattle.command_outputs.specs.Lines.{line}

-- what a manifest is read as: its tree, or its first fault
abbrev pub read_as : Filed → Result File Fault
read_as f = file_of f.0 f.1

abbrev pub with_fault : Result File Fault → List Fault → List Fault
with_fault (Ok file) later = later
with_fault (Err fault) later = fault ∷ later

-- the faults of those that have one, in their order
unfoldable pub faults_among : List (Result File Fault) → List Fault
faults_among [] = []
faults_among (read ∷ reads) = with_fault read (faults_among reads)

-- the faults of a site's manifests, the main one among them, by path in byte order
abbrev pub faults_of : SiteView → List Fault
faults_of site = faults_among (map read_as site.manifests)

-- a line for each fault
unfoldable pub fault_lines : List Fault → List ℕ
fault_lines [] = []
fault_lines (fault ∷ faults) = line (fault_text fault) ++ fault_lines faults

-- `files N faults M`
unfoldable pub count_line : (files faults : ℕ) → List ℕ
count_line files faults =
    codes "files " ++ (decimal files ++ (codes " faults " ++ (decimal faults ++ codes "\n")))

-- the lines of the faults, and then the numbers of manifests and of faults
abbrev pub checked_text : SiteView → List ℕ
checked_text site = fault_lines (faults_of site) ++ count_line (length site.manifests) (length (faults_of site))
