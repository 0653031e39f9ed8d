use Rattle.std.proofs.Common.{refl, codes}
use Rattle.site_bundle.specs.declared.limits.TheConstants.{MOST_LEVELS}
use Rattle.site_bundle.specs.FolderSites.{file_walk, folder_walk, main_walk, nodes_walk}
use Rattle.site_bundle.specs.Gathering.{site_file, machine_file}
use Rattle.site_bundle.proofs.WalkSteps.{leads_steps, step_next, step_stop, steps_end}
use Rattle.site_bundle.proofs.folder.read_files.Goals as goal

pub returns-in_err-read_folder : goal.returns-in_err-read_folder
returns-in_err-read_folder g c =
    step_stop _ _ (folder_walk MOST_LEVELS c.args.front.now (codes "data/")) _ _ _ _
    (leads_steps _ c.args.front.now _ c.new-gathered.ensures)
    c.from_residual.ensures.1 c.in_err-read_folder.ensures

pub returns-in_err-read_folder-2 : goal.returns-in_err-read_folder-2
returns-in_err-read_folder-2 g c =
    step_stop _ _ (folder_walk MOST_LEVELS c.args.front.now (codes "global/")) _ _ _ _
    (step_next _ (folder_walk MOST_LEVELS c.args.front.now (codes "data/")) _ _ _
    (leads_steps _ c.args.front.now _ c.new-gathered.ensures) c.in_ok-read_folder.ensures)
    c.from_residual-in_err-read_folder-2.ensures.1 c.in_err-read_folder-2.ensures

pub returns-in_err-read_site_file : goal.returns-in_err-read_site_file
returns-in_err-read_site_file g c =
    step_stop _ _ (file_walk site_file c.args.front.now (codes "hiera.yaml")) _ _ _ _
    (step_next _ (folder_walk MOST_LEVELS c.args.front.now (codes "global/")) _ _ _
    (step_next _ (folder_walk MOST_LEVELS c.args.front.now (codes "data/")) _ _ _
    (leads_steps _ c.args.front.now _ c.new-gathered.ensures) c.in_ok-read_folder.ensures) c.in_ok-read_folder-2.ensures)
    c.from_residual-in_err-read_site_file.ensures.1 c.in_err-read_site_file.ensures

pub returns-in_err-read_machine_file : goal.returns-in_err-read_machine_file
returns-in_err-read_machine_file g c =
    step_stop _ _ (file_walk machine_file c.args.front.now (codes "machine.json")) _ _ _ _
    (step_next _ (file_walk site_file c.args.front.now (codes "hiera.yaml")) _ _ _
    (step_next _ (folder_walk MOST_LEVELS c.args.front.now (codes "global/")) _ _ _
    (step_next _ (folder_walk MOST_LEVELS c.args.front.now (codes "data/")) _ _ _
    (leads_steps _ c.args.front.now _ c.new-gathered.ensures) c.in_ok-read_folder.ensures) c.in_ok-read_folder-2.ensures) c.in_ok-read_site_file.ensures)
    c.from_residual-in_err-read_machine_file.ensures.1 c.in_err-read_machine_file.ensures

pub returns-in_err-read_main : goal.returns-in_err-read_main
returns-in_err-read_main g c =
    step_stop _ _ (main_walk c.args.front.now) _ _ _ _
    (step_next _ (file_walk machine_file c.args.front.now (codes "machine.json")) _ _ _
    (step_next _ (file_walk site_file c.args.front.now (codes "hiera.yaml")) _ _ _
    (step_next _ (folder_walk MOST_LEVELS c.args.front.now (codes "global/")) _ _ _
    (step_next _ (folder_walk MOST_LEVELS c.args.front.now (codes "data/")) _ _ _
    (leads_steps _ c.args.front.now _ c.new-gathered.ensures) c.in_ok-read_folder.ensures) c.in_ok-read_folder-2.ensures) c.in_ok-read_site_file.ensures) c.in_ok-read_machine_file.ensures)
    c.from_residual-in_err-read_main.ensures.1 c.in_err-read_main.ensures

pub returns-in_err-read_folder-3 : goal.returns-in_err-read_folder-3
returns-in_err-read_folder-3 g c =
    step_stop _ _ (folder_walk MOST_LEVELS c.args.front.now (codes "modules/")) _ _ _ _
    (step_next _ (main_walk c.args.front.now) _ _ _
    (step_next _ (file_walk machine_file c.args.front.now (codes "machine.json")) _ _ _
    (step_next _ (file_walk site_file c.args.front.now (codes "hiera.yaml")) _ _ _
    (step_next _ (folder_walk MOST_LEVELS c.args.front.now (codes "global/")) _ _ _
    (step_next _ (folder_walk MOST_LEVELS c.args.front.now (codes "data/")) _ _ _
    (leads_steps _ c.args.front.now _ c.new-gathered.ensures) c.in_ok-read_folder.ensures) c.in_ok-read_folder-2.ensures) c.in_ok-read_site_file.ensures) c.in_ok-read_machine_file.ensures) c.in_ok-read_main.ensures)
    c.from_residual-in_err-read_folder-3.ensures.1 c.in_err-read_folder-3.ensures

pub returns-in_err-read_nodes_folder : goal.returns-in_err-read_nodes_folder
returns-in_err-read_nodes_folder g c =
    step_stop _ _ (nodes_walk c.args.front.now) _ _ _ _
    (step_next _ (folder_walk MOST_LEVELS c.args.front.now (codes "modules/")) _ _ _
    (step_next _ (main_walk c.args.front.now) _ _ _
    (step_next _ (file_walk machine_file c.args.front.now (codes "machine.json")) _ _ _
    (step_next _ (file_walk site_file c.args.front.now (codes "hiera.yaml")) _ _ _
    (step_next _ (folder_walk MOST_LEVELS c.args.front.now (codes "global/")) _ _ _
    (step_next _ (folder_walk MOST_LEVELS c.args.front.now (codes "data/")) _ _ _
    (leads_steps _ c.args.front.now _ c.new-gathered.ensures) c.in_ok-read_folder.ensures) c.in_ok-read_folder-2.ensures) c.in_ok-read_site_file.ensures) c.in_ok-read_machine_file.ensures) c.in_ok-read_main.ensures) c.in_ok-read_folder-3.ensures)
    c.from_residual-in_err-read_nodes_folder.ensures.1 c.in_err-read_nodes_folder.ensures

pub returns : goal.returns
returns g c =
    steps_end _ _ _
    (step_next _ (nodes_walk c.args.front.now) _ _ _
    (step_next _ (folder_walk MOST_LEVELS c.args.front.now (codes "modules/")) _ _ _
    (step_next _ (main_walk c.args.front.now) _ _ _
    (step_next _ (file_walk machine_file c.args.front.now (codes "machine.json")) _ _ _
    (step_next _ (file_walk site_file c.args.front.now (codes "hiera.yaml")) _ _ _
    (step_next _ (folder_walk MOST_LEVELS c.args.front.now (codes "global/")) _ _ _
    (step_next _ (folder_walk MOST_LEVELS c.args.front.now (codes "data/")) _ _ _
    (leads_steps _ c.args.front.now _ c.new-gathered.ensures) c.in_ok-read_folder.ensures) c.in_ok-read_folder-2.ensures) c.in_ok-read_site_file.ensures) c.in_ok-read_machine_file.ensures) c.in_ok-read_main.ensures) c.in_ok-read_folder-3.ensures) c.in_ok-read_nodes_folder.ensures)
    refl
